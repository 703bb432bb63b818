-- How the lines that are written are read.
use Rattle.std.proofs.Common.{◌≡◌, ℕ, ◌+◌, ◌^◌, ◌<◌, ◌≤◌, Bool, true, false, not, ◌&&◌, ◌||◌, cond, List, [], ◌∷◌, ◌++◌, length, take, zero, suc, ◌-◌, ◌/◌, ◌%◌}
use Rattle.std.proofs.Common.{Option, Some, None, is_some, is_none, option_map, decimal, codes, refl, sym, ap, ◌∙◌, arith, eqb, filter_map}
use Rattle.std.specs.List.{list_all, cons_option, suffix_len}
use Rattle.std.specs.Option.{option_or, option_map_or}
use Rattle.exact_text.specs.Readings.{◌>>=◌}
use Rattle.std.proofs.lemmas.Bool.{eq-eqb, ne_eqb, and_parts, and_from}
use Rattle.io_caps.specs.declared.rate.Width.{Width}
use Rattle.io_caps.specs.declared.rate.Width.TheVariants.{L16, L24}
use Rattle.sdp_audio.specs.declared.stream.Format.{Format}
use Rattle.sdp_audio.specs.Line.{space, slash, words, is_typed, cut_at, number_in, after_prefix}
use Rattle.sdp_audio.specs.Media.{RtpAudio, media_words, is_media, port_of, type_of, is_audio, is_rtp, has_media_fault, is_bad_media, audio_of, line_audio}
use Rattle.sdp_audio.specs.Media.{width_named, mapping_of, line_mapping, hz_of, channels_of, sampling_in, sampling_of, is_bad_mapping, line_format, format_for}
use Rattle.sdp_audio.specs.Text.{name_of, media_line, format_text, mapping_line, three_digits, fraction, milliseconds, ptime_line}
use Rattle.sdp_audio.proofs.Spelled.{number_is, lacks, lacks_both, number_lacks, cut_is, before_is, split_is, one_part}

-- ---- `m=audio PORT RTP/AVP TYPE`

-- what follows `m=`
abbrev media_text : ℕ → ℕ → List ℕ
media_text port type = codes "audio " ++ (decimal port ++ (codes " RTP/AVP " ++ decimal type))

-- the words
abbrev parts_text : ℕ → ℕ → List (List ℕ)
parts_text port type = codes "audio" ∷ decimal port ∷ codes "RTP/AVP" ∷ decimal type ∷ []

media_words_are : (port type : ℕ) → port < 10 ^ 10 → type < 10 ^ 10 → words (media_text port type) ≡ parts_text port type
media_words_are port type p t =
    ap (λ (parts : List (List ℕ)). codes "audio" ∷ parts)
    (split_is 32 (decimal port) (codes "RTP/AVP " ++ decimal type) (number_lacks 32 port (omega arith) p)
    ∙ ap (λ (parts : List (List ℕ)). decimal port ∷ codes "RTP/AVP" ∷ parts) (one_part 32 (decimal type) (number_lacks 32 type (omega arith) t)))

line_words : (port type : ℕ) → port < 10 ^ 10 → type < 10 ^ 10 → media_words (media_line port type) ≡ Some (parts_text port type)
unfolding media_line
line_words port type p t = ap Some (media_words_are port type p t)

port_is : (port : ℕ) → port ≤ 65535 → port_of (decimal port) ≡ Some port
port_is port low =
    ap (number_in 0 65535) (before_is 47 (decimal port) (number_lacks 47 port (omega arith) (omega (arith, low))))
    ∙ number_is 0 65535 port (omega arith) low (omega arith)

type_is : (type : ℕ) → type ≤ 127 → type_of (decimal type) ≡ Some type
type_is type low = number_is 0 127 type (omega arith) low (omega arith)

-- audio over RTP of a port and types
abbrev audio_with : ℕ → List ℕ → RtpAudio
audio_with port types = record { port = port; types = types }

-- audio of one type is offered
pub audio_is : (port type : ℕ) → port ≤ 65535 → type ≤ 127 → line_audio (media_line port type) ≡ Some (record { port = port; types = type ∷ [] })
audio_is port type p t =
    ap (λ (o : Option (List (List ℕ))). o >>= audio_of) (line_words port type (omega (arith, p)) (omega (arith, t)))
    ∙ ap (option_map (λ (n : ℕ). audio_with n (cons_option (type_of (decimal type)) []))) (port_is port p)
    ∙ ap (λ (o : Option ℕ). Some (audio_with port (cons_option o []))) (type_is type t)

-- a line that may stand in a description, after the first
pub record IsGoodLine (line : List ℕ) : Type 0 where
  pub typed : is_typed line ≡ true
  pub media : is_bad_media line ≡ false
  pub mapping : is_bad_mapping line ≡ false
  pub feed : lacks 10 line ≡ true

media_good : (port type : ℕ) → port ≤ 65535 → type ≤ 127 → is_bad_media (media_line port type) ≡ false
media_good port type p t =
    ap (λ (o : Option (List (List ℕ))). option_map_or (λ parts. is_audio parts && has_media_fault parts) o false)
    (line_words port type (omega (arith, p)) (omega (arith, t)))
    ∙ ap (λ (o : Option ℕ). is_none o || not (is_some (type_of (decimal type)) && true)) (port_is port p)
    ∙ ap (λ (o : Option ℕ). not (is_some o && true)) (type_is type t)

media_feed : (port type : ℕ) → port ≤ 65535 → type ≤ 127 → lacks 10 (media_line port type) ≡ true
unfolding media_line
media_feed port type p t =
    lacks_both 10 (codes "m=audio ") (decimal port ++ (codes " RTP/AVP " ++ decimal type)) refl
    (lacks_both 10 (decimal port) (codes " RTP/AVP " ++ decimal type) (number_lacks 10 port (omega arith) (omega (arith, p)))
    (lacks_both 10 (codes " RTP/AVP ") (decimal type) refl (number_lacks 10 type (omega arith) (omega (arith, t)))))

media_typed : (port type : ℕ) → is_typed (media_line port type) ≡ true
unfolding media_line
media_typed port type = refl

media_maps_nothing : (port type : ℕ) → is_bad_mapping (media_line port type) ≡ false
unfolding media_line
media_maps_nothing port type = refl

pub media_line_good : (port type : ℕ) → port ≤ 65535 → type ≤ 127 → IsGoodLine (media_line port type)
media_line_good port type p t = record {
  typed = media_typed port type;
  media = media_good port type p t;
  mapping = media_maps_nothing port type;
  feed = media_feed port type p t;
}

-- it begins a section
pub media_line_is : (port type : ℕ) → is_media (media_line port type) ≡ true
unfolding media_line
media_line_is port type = refl

-- ---- `a=rtpmap:TYPE NAME/HZ/CHANNELS`

slash_lacks : (width : Width) → lacks 47 (name_of width) ≡ true
slash_lacks L16 = refl
slash_lacks L24 = refl

feed_lacks : (width : Width) → lacks 10 (name_of width) ≡ true
feed_lacks L16 = refl
feed_lacks L24 = refl

width_is : (width : Width) → width_named (name_of width) ≡ Some width
width_is L16 = refl
width_is L24 = refl

-- what follows the type and a space
mapping_parts : (type : ℕ) (width : Width) (rest : List ℕ) → type ≤ 127
    → mapping_of (decimal type ++ 32 ∷ (name_of width ++ 47 ∷ rest)) ≡ Some (type, (width, rest))
mapping_parts type width rest low =
    ap (λ (o : Option (List ℕ × List ℕ)). o >>= λ t. type_of t.0 >>= λ n. cut_at slash t.1 >>= λ name. width_named name.0 >>= λ w. Some (n, (w, name.1)))
    (cut_is 32 (decimal type) (name_of width ++ 47 ∷ rest) (number_lacks 32 type (omega arith) (omega (arith, low))))
    ∙ ap (λ (o : Option ℕ). o >>= λ n. cut_at slash (name_of width ++ 47 ∷ rest) >>= λ name. width_named name.0 >>= λ w. Some (n, (w, name.1))) (type_is type low)
    ∙ ap (λ (o : Option (List ℕ × List ℕ)). o >>= λ name. width_named name.0 >>= λ w. Some (type, (w, name.1))) (cut_is 47 (name_of width) rest (slash_lacks width))
    ∙ ap (λ (o : Option Width). o >>= λ w. Some (type, (w, rest))) (width_is width)

-- a rate and channels
abbrev pub IsSampling : ℕ → ℕ → Type 0
IsSampling hz channels = (1 ≤ hz) × (hz < 2 ^ 32) × (1 ≤ channels) × (channels ≤ 255)

sampling_is : (hz channels : ℕ) → IsSampling hz channels → sampling_of (decimal hz ++ 47 ∷ decimal channels) ≡ Some (hz, channels)
sampling_is hz channels h =
    ap (sampling_in (decimal hz ++ 47 ∷ decimal channels))
    (cut_is 47 (decimal hz) (decimal channels) (number_lacks 47 hz (omega arith) (omega (arith, h.1))))
    ∙ ap (λ (o : Option ℕ). o >>= λ n. channels_of (decimal channels) >>= λ c. Some (n, c)) (number_is 1 (2 ^ 32 - 1) hz h.0 (omega (arith, h.1)) (omega arith))
    ∙ ap (λ (o : Option ℕ). o >>= λ c. Some (hz, c)) (number_is 1 255 channels h.2 h.3 (omega arith))

line_mapping_is : (type : ℕ) (width : Width) (hz channels : ℕ) → type ≤ 127
    → line_mapping (mapping_line type width hz channels) ≡ Some (type, (width, decimal hz ++ 47 ∷ decimal channels))
unfolding mapping_line format_text
line_mapping_is type width hz channels low = mapping_parts type width (decimal hz ++ 47 ∷ decimal channels) low

-- a format of its parts
abbrev pub format_with : Width → ℕ → ℕ → Format
format_with width hz channels = record { width = width; hz = hz; channels = channels }

line_format_is : (type : ℕ) (width : Width) (hz channels : ℕ) → type ≤ 127 → IsSampling hz channels
    → line_format (mapping_line type width hz channels) ≡ Some (type, format_with width hz channels)
line_format_is type width hz channels low h =
    ap (λ (o : Option (ℕ × (Width × List ℕ))). o >>= λ m. sampling_of m.1.1 >>= λ s. Some (m.0, format_with m.1.0 s.0 s.1))
    (line_mapping_is type width hz channels low)
    ∙ ap (λ (o : Option (ℕ × ℕ)). o >>= λ s. Some (type, format_with width s.0 s.1)) (sampling_is hz channels h)

-- the format that the line gives its type
pub mapping_gives : (type : ℕ) (width : Width) (hz channels : ℕ) → type ≤ 127 → IsSampling hz channels
    → format_for type (mapping_line type width hz channels) ≡ Some (format_with width hz channels)
mapping_gives type width hz channels low h =
    ap (λ (o : Option (ℕ × Format)). o >>= λ given. cond (eqb given.0 type) (Some given.1) None) (line_format_is type width hz channels low h)
    ∙ ap (λ test. cond test (Some (format_with width hz channels)) None) (eq-eqb type type refl)

mapping_good : (type : ℕ) (width : Width) (hz channels : ℕ) → type ≤ 127 → IsSampling hz channels
    → is_bad_mapping (mapping_line type width hz channels) ≡ false
mapping_good type width hz channels low h =
    ap (λ (o : Option (ℕ × (Width × List ℕ))). option_map_or (λ m. is_none (sampling_of m.1.1)) o false) (line_mapping_is type width hz channels low)
    ∙ ap is_none (sampling_is hz channels h)

mapping_feed : (type : ℕ) (width : Width) (hz channels : ℕ) → type ≤ 127 → IsSampling hz channels
    → lacks 10 (mapping_line type width hz channels) ≡ true
unfolding mapping_line format_text
mapping_feed type width hz channels low h =
    let last = codes "/" ++ decimal channels in
    let rate = decimal hz ++ last in
    let name = name_of width ++ (codes "/" ++ rate) in
    lacks_both 10 (codes "a=rtpmap:") (decimal type ++ (codes " " ++ name)) refl
    (lacks_both 10 (decimal type) (codes " " ++ name) (number_lacks 10 type (omega arith) (omega (arith, low)))
    (lacks_both 10 (codes " ") name refl
    (lacks_both 10 (name_of width) (codes "/" ++ rate) (feed_lacks width)
    (lacks_both 10 (codes "/") rate refl
    (lacks_both 10 (decimal hz) last (number_lacks 10 hz (omega arith) (omega (arith, h.1)))
    (lacks_both 10 (codes "/") (decimal channels) refl (number_lacks 10 channels (omega arith) (omega (arith, h.3)))))))))

mapping_typed : (type : ℕ) (width : Width) (hz channels : ℕ) → is_typed (mapping_line type width hz channels) ≡ true
unfolding mapping_line
mapping_typed type width hz channels = refl

mapping_no_media : (type : ℕ) (width : Width) (hz channels : ℕ) → media_words (mapping_line type width hz channels) ≡ None
unfolding mapping_line
mapping_no_media type width hz channels = refl

pub mapping_line_good : (type : ℕ) (width : Width) (hz channels : ℕ) → type ≤ 127 → IsSampling hz channels
    → IsGoodLine (mapping_line type width hz channels)
mapping_line_good type width hz channels low h = record {
  typed = mapping_typed type width hz channels;
  media = ap (λ (o : Option (List (List ℕ))). option_map_or (λ parts. is_audio parts && has_media_fault parts) o false) (mapping_no_media type width hz channels);
  mapping = mapping_good type width hz channels low h;
  feed = mapping_feed type width hz channels low h;
}

-- it begins no section
pub mapping_line_is : (type : ℕ) (width : Width) (hz channels : ℕ) → is_media (mapping_line type width hz channels) ≡ false
mapping_line_is type width hz channels = ap is_some (mapping_no_media type width hz channels)

pub mapping_no_audio : (type : ℕ) (width : Width) (hz channels : ℕ) → line_audio (mapping_line type width hz channels) ≡ None
mapping_no_audio type width hz channels = ap (λ (o : Option (List (List ℕ))). o >>= audio_of) (mapping_no_media type width hz channels)

-- ---- `a=ptime:MILLISECONDS`

lacks_take : (byte n : ℕ) (xs : List ℕ) → lacks byte xs ≡ true → lacks byte (take n xs) ≡ true
lacks_take byte zero xs h = refl
lacks_take byte (suc n) [] h = refl
lacks_take byte (suc n) (x ∷ xs) h =
    let parts = and_parts (not (eqb x byte)) (lacks byte xs) h in
    and_from (not (eqb x byte)) (lacks byte (take n xs)) parts.0 (lacks_take byte n xs parts.1)

digit_lacks : (n : ℕ) → not (eqb (48 + n) 10) ≡ true
digit_lacks n = ap not (ne_eqb (48 + n) 10 (λ e. omega (arith, e)))

three_lack : (n : ℕ) → lacks 10 (three_digits n) ≡ true
three_lack n = rw (digit_lacks (n / 100), digit_lacks (n / 10 % 10), digit_lacks (n % 10)) refl

fraction_by : (test : Bool) (n : ℕ) → lacks 10 (cond test [] (fraction n)) ≡ true
fraction_by true n = refl
fraction_by false n = lacks_take 10 (3 - suffix_len (λ b. eqb b 48) (three_digits n)) (three_digits n) (three_lack n)

ptime_feed : (micros : ℕ) → micros < 10 ^ 10 → lacks 10 (ptime_line micros) ≡ true
unfolding ptime_line
ptime_feed micros low =
    let rest = micros % 1000 in
    lacks_both 10 (codes "a=ptime:") (milliseconds micros) refl
    (lacks_both 10 (decimal (micros / 1000)) (cond (eqb rest 0) [] (fraction rest)) (number_lacks 10 (micros / 1000) (omega arith) (omega (arith, low)))
    (fraction_by (eqb rest 0) rest))

ptime_typed : (micros : ℕ) → is_typed (ptime_line micros) ≡ true
unfolding ptime_line
ptime_typed micros = refl

ptime_no_media : (micros : ℕ) → media_words (ptime_line micros) ≡ None
unfolding ptime_line
ptime_no_media micros = refl

ptime_no_mapping : (micros : ℕ) → is_bad_mapping (ptime_line micros) ≡ false
unfolding ptime_line
ptime_no_mapping micros = refl

pub ptime_line_good : (micros : ℕ) → micros < 10 ^ 10 → IsGoodLine (ptime_line micros)
ptime_line_good micros low = record {
  typed = ptime_typed micros;
  media = ap (λ (o : Option (List (List ℕ))). option_map_or (λ parts. is_audio parts && has_media_fault parts) o false) (ptime_no_media micros);
  mapping = ptime_no_mapping micros;
  feed = ptime_feed micros low;
}

pub ptime_line_is : (micros : ℕ) → is_media (ptime_line micros) ≡ false
ptime_line_is micros = ap is_some (ptime_no_media micros)

pub ptime_no_audio : (micros : ℕ) → line_audio (ptime_line micros) ≡ None
ptime_no_audio micros = ap (λ (o : Option (List (List ℕ))). o >>= audio_of) (ptime_no_media micros)
