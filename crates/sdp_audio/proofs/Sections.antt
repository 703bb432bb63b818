-- The stream of a section, by a table of formats and the words of an `m=` line.
use Rattle.std.proofs.Common.{◌≡◌, ℕ, ◌+◌, ◌<◌, ◌≤◌, Bool, true, false, ◌&&◌, cond, List, [], ◌∷◌, filter_map, leb}
use Rattle.std.proofs.Common.{Option, Some, None, is_some, option_map, get_or, replicate, zero, suc, refl, sym, ap, ◌∙◌, arith}
use Rattle.std.specs.List.{cons_option}
use Rattle.std.specs.Option.{option_or}
use Rattle.std.specs.Str.Parse.{digits_value}
use Rattle.exact_text.specs.Readings.{◌>>=◌}
use Rattle.std.proofs.lemmas.Bool.{leb-true, and_parts}
use Rattle.sdp_audio.specs.declared.stream.Format.{Format}
use Rattle.sdp_audio.specs.declared.stream.Stream.{Stream}
use Rattle.sdp_audio.specs.Line.{is_numeral, number_in, words}
use Rattle.sdp_audio.specs.Media.{RtpAudio, media_words, is_media, line_audio, audio_of, type_of, format_for}
use Rattle.sdp_audio.specs.Section.{attributes_in, sections, first_given, static_format, format_in, stream_by, stream_of}
use Rattle.sdp_audio.specs.Steps.{section, table_format, word_stream}

low_by : (test : Bool) (v n most : ℕ) → (test ≡ true → v ≤ most) → cond test (Some v) None ≡ Some n → n ≤ most
low_by true v n most within e = let same : v ≡ n = cc in omega (arith, within refl, same)
low_by false v n most within e = absurd cc

-- a number is not above its limit
pub number_low : (least most : ℕ) (text : List ℕ) (n : ℕ) → number_in least most text ≡ Some n → n ≤ most
number_low least most text n e =
    let v = digits_value 10 text in
    low_by (is_numeral text && leb least v && leb v most) v n most
    (λ t. leb-true v most (and_parts (is_numeral text && leb least v) (leb v most) t).1) e

-- ---- what is given first

given_step : {Y : Type 0} (f g : ℕ → Option Y) (type : Option ℕ) (behind : Option Y) (types : List ℕ) → ((t : ℕ) → type ≡ Some t → f t ≡ g t)
    → behind ≡ first_given g types → option_or (type >>= f) behind ≡ first_given g (cons_option type types)
given_step f g None behind types same rest = rest
given_step f g (Some t) behind types same rest = rw (same t refl) (ap (option_or (g t)) rest)

-- what is given for a word by what it stands for
given_by : {Y : Type 0} (stands : List ℕ → Option ℕ) (f g : ℕ → Option Y) (words : List (List ℕ)) → ((word : List ℕ) (t : ℕ) → stands word ≡ Some t → f t ≡ g t)
    → first_given (λ word. stands word >>= f) words ≡ first_given g (filter_map stands words)
given_by stands f g [] same = refl
given_by stands f g (word ∷ words) same =
    given_step f g (stands word) (first_given (λ word. stands word >>= f) words) (filter_map stands words) (λ t e. same word t e)
    (given_by stands f g words same)

-- the table has the formats that lines give
abbrev pub IsTable : List (List ℕ) → List (Option Format) → Type 0
IsTable attributes table = (t : ℕ) → t < 128 → get_or table t None ≡ first_given (format_for t) attributes

-- the stream of the first word that is a type with a format in the table is the section's
pub section_is : (line : List ℕ) (attributes : List (List ℕ)) (port : ℕ) (types : List ℕ) (table : List (Option Format))
    → Some (record { port = port; types = filter_map type_of (words types) }) ≡ line_audio line → IsTable attributes table
    → first_given (word_stream port table) (words types) ≡ stream_of (section line attributes)
section_is line attributes port types table is formats =
    let f = λ (t : ℕ). option_map (stream_by port t) (table_format table t) in
    let g = λ (t : ℕ). option_map (stream_by port t) (format_in attributes t) in
    let same = λ (word : List ℕ) (t : ℕ) (e : type_of word ≡ Some t).
    ap (λ (o : Option Format). option_map (stream_by port t) (option_or o (static_format t)))
    (formats t (omega (arith, number_low 0 127 word t e))) in
    given_by type_of f g (words types) same
    ∙ ap (λ (o : Option RtpAudio). o >>= λ audio. first_given (λ t. option_map (stream_by audio.port t) (format_in attributes t)) audio.types) is

-- no audio, no stream
pub no_audio : (line : List ℕ) (attributes : List (List ℕ)) → line_audio line ≡ None → stream_of (section line attributes) ≡ None
no_audio line attributes none =
    ap (λ (o : Option RtpAudio). o >>= λ audio. first_given (λ t. option_map (stream_by audio.port t) (format_in attributes t)) audio.types) none

-- ---- one line more

none_of : {X : Type 0} (o : Option X) → is_some o ≡ false → o ≡ None
none_of None e = refl
none_of (Some x) e = absurd cc

by_media : (line : List ℕ) (below : List (List ℕ)) (test : Bool) → is_media line ≡ test
    → filter_map stream_of (cond test (section line (attributes_in below) ∷ sections below) (sections below))
    ≡ cons_option (stream_of (section line (attributes_in below))) (filter_map stream_of (sections below))
by_media line below true e = refl
by_media line below false e =
    let none : media_words line ≡ None = none_of (media_words line) e in
    let audio : line_audio line ≡ None = ap (λ (o : Option (List (List ℕ))). o >>= audio_of) none in
    sym (ap (λ (o : Option Stream). cons_option o (filter_map stream_of (sections below))) (no_audio line (attributes_in below) audio))

-- the streams of lines are that of the section of the first, where it begins one, and those below
pub sections_more : (line : List ℕ) (below : List (List ℕ))
    → filter_map stream_of (sections (line ∷ below))
    ≡ cons_option (stream_of (section line (attributes_in below))) (filter_map stream_of (sections below))
sections_more line below = by_media line below (is_media line) refl

-- no format
abbrev nothing : Option Format
nothing = None

-- a table of nothing
pub none_at : (n t : ℕ) → get_or (replicate n nothing) t None ≡ None
none_at zero t = refl
none_at (suc n) zero = refl
none_at (suc n) (suc t) = none_at n t
