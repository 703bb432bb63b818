-- The description of a device is read as the streams that it sends.
use Rattle.std.proofs.Common.{◌≡◌, ℕ, zero, suc, ◌+◌, ◌-◌, ◌*◌, ◌/◌, ◌%◌, ◌^◌, ◌<◌, ◌≤◌, Bool, true, false, not, ◌&&◌, cond, List, [], ◌∷◌, ◌++◌, length, get_or, take, drop}
use Rattle.std.proofs.Common.{Option, Some, None, option_map, map, flat_map, filter_map, codes, bytes_eq, refl, sym, ap, ◌∙◌, subst, arith, inl, inr, eqb, All, append_assoc, length-append}
use Rattle.std.proofs.Common.{div-le_self}
use Rattle.std.specs.List.{list_all, slice_split, enumerate_from, cons_option, AllByRecursion}
use Rattle.std.specs.Option.{option_or}
use Rattle.std.specs.Str.Lines.{lines, strip_carriage_return}
use Rattle.exact_text.specs.Readings.{◌>>=◌}
use Rattle.std.proofs.lemmas.Bool.{eq-eqb}
use Rattle.std.proofs.lemmas.List.{take_at, get_or_at}
use Rattle.std.proofs.lemmas.List.Elements.{All-from_recursion, recursion_from_All}
use Rattle.std.proofs.lemmas.List.Sums.{take_while-cons}
use Rattle.std.proofs.lemmas.Grind.{flat_map-append}
use Rattle.io_caps.specs.Device.{IsDevice}
use Rattle.io_caps.specs.Port.{AreChannels, IsPayloadType}
use Rattle.io_caps.specs.Rate.{IsRate}
use Rattle.io_caps.specs.declared.device.DeviceParts.{DeviceParts}
use Rattle.io_caps.specs.declared.port.Output.{Output}
use Rattle.io_caps.specs.declared.rate.Rate.{Rate}
use Rattle.sdp_audio.specs.declared.stream.Format.{Format}
use Rattle.sdp_audio.specs.declared.stream.Stream.{Stream}
use Rattle.sdp_audio.specs.declared.fault.SdpFault.{SdpFault}
use Rattle.sdp_audio.specs.declared.fault.SdpFault.TheVariants.{Start, Line, Media, Map}
use Rattle.sdp_audio.specs.Line.{is_typed}
use Rattle.sdp_audio.specs.Media.{RtpAudio, is_media, is_bad_media, is_bad_mapping, line_audio, format_for}
use Rattle.sdp_audio.specs.Section.{attributes_in, sections, first_given, static_format, format_in, stream_by, stream_of, sdp_streams}
use Rattle.sdp_audio.specs.Steps.{section}
use Rattle.sdp_audio.specs.Fault.{is_empty_line, is_blank, is_in_audio, line_fault, fault_at, HasNoFault}
use Rattle.sdp_audio.specs.Text.{session_lines, port_to, media_line, mapping_line, ptime_line, ptime_lines, output_lines, sdp_lines, ended, sdp_text, output_stream, device_streams}
use Rattle.sdp_audio.proofs.Cuts.{first_line}
use Rattle.sdp_audio.proofs.Sections.{sections_more, no_audio}
use Rattle.sdp_audio.proofs.Spelled.{lacks, lacks_both, split_is}
use Rattle.sdp_audio.proofs.SpelledLines.{IsGoodLine, IsSampling, format_with, audio_is, media_line_good, media_line_is, mapping_gives}
use Rattle.sdp_audio.proofs.SpelledLines.{mapping_line_good, mapping_line_is, mapping_no_audio, ptime_line_good, ptime_line_is, ptime_no_audio}

-- ---- lines with their ends

stripped : (line : List ℕ) → strip_carriage_return (line ++ 13 ∷ []) ≡ line
stripped line =
    let whole : List ℕ = line ++ 13 ∷ [] in
    let last : length whole - 1 ≡ length line = omega (arith, length-append line (13 ∷ [])) in
    let return : get_or whole (length line) 0 ≡ 13 = get_or_at line 13 [] 0 (length line) refl in
    ap (λ (n : ℕ). cond (eqb (get_or whole n 0) 13) (take n whole) whole) last
    ∙ ap (λ (b : ℕ). cond (eqb b 13) (take (length line) whole) whole) return
    ∙ take_at line (13 ∷ []) (length line) refl

-- a line that ends is read
ended_line : (line rest : List ℕ) → lacks 10 line ≡ true → lines (ended line ++ rest) ≡ line ∷ lines rest
ended_line line rest feed =
    let returned : List ℕ = line ++ 13 ∷ [] in
    let parts : ended line ++ rest ≡ returned ++ 10 ∷ rest = append_assoc line (13 ∷ 10 ∷ []) rest ∙ sym (append_assoc line (13 ∷ []) (10 ∷ rest)) in
    first_line (ended line ++ rest) returned rest (ap (slice_split (λ b. eqb b 10)) parts ∙ split_is 10 returned rest (lacks_both 10 line (13 ∷ []) feed refl))
    ∙ ap (λ (l : List ℕ). l ∷ lines rest) (stripped line)

-- all lines that end are read
ended_lines : (all : List (List ℕ)) → AllByRecursion IsGoodLine all → lines (flat_map ended all) ≡ all
ended_lines [] good = refl
ended_lines (line ∷ all) good =
    ended_line line (flat_map ended all) good.0.feed ∙ ap (λ (ls : List (List ℕ)). line ∷ ls) (ended_lines all good.1)

-- ---- good lines

good_both : (xs ys : List (List ℕ)) → AllByRecursion IsGoodLine xs → AllByRecursion IsGoodLine ys → AllByRecursion IsGoodLine (xs ++ ys)
good_both [] ys a b = b
good_both (x ∷ xs) ys a b = (a.0, good_both xs ys a.1 b)

-- an output of a device, with its number
pub record IsSent (rate : Rate) (number : ℕ) (output : Output) : Type 0 where
  pub rate_is : IsRate rate
  pub port : port_to number ≤ 65535
  pub type : output.payload_type ≤ 127
  pub sampling : IsSampling rate.hz (length output.labels)

micros_low : (rate : Rate) → IsRate rate → rate.frames * 10 ^ 6 / rate.hz < 10 ^ 10
micros_low rate is = omega (arith, div-le_self (rate.frames * 10 ^ 6) rate.hz, is.2)

ptime_by : (test : Bool) (micros : ℕ) → micros < 10 ^ 10 → AllByRecursion IsGoodLine (cond test (ptime_line micros ∷ []) [])
ptime_by true micros low = (ptime_line_good micros low, tt)
ptime_by false micros low = tt

output_good : (rate : Rate) (number : ℕ) (output : Output) → IsSent rate number output → AllByRecursion IsGoodLine (output_lines rate (number, output))
output_good rate number output s = (
  media_line_good (port_to number) output.payload_type s.port s.type,
  (
    mapping_line_good output.payload_type output.width rate.hz (length output.labels) s.type s.sampling,
    ptime_by (eqb (rate.frames * 10 ^ 6 % rate.hz) 0) (rate.frames * 10 ^ 6 / rate.hz) (micros_low rate s.rate_is),
  ),
)

-- the outputs from a number on
abbrev AreSent : Rate → ℕ → List Output → Type 0
AreSent rate number [] = Unit {0}
AreSent rate number (output ∷ outputs) = IsSent rate number output × AreSent rate (number + 1) outputs

outputs_good : (rate : Rate) (number : ℕ) (outputs : List Output) → AreSent rate number outputs
    → AllByRecursion IsGoodLine (flat_map (output_lines rate) (enumerate_from number outputs))
outputs_good rate number [] s = tt
outputs_good rate number (output ∷ outputs) s =
    good_both (output_lines rate (number, output)) (flat_map (output_lines rate) (enumerate_from (number + 1) outputs))
    (output_good rate number output s.0) (outputs_good rate (number + 1) outputs s.1)

-- ---- no fault

tests : (e s t m p a : Bool) (A B C D : Option SdpFault) → t ≡ true → m ≡ false → p ≡ false
    → cond e None (cond (false && s) A (cond (not t) B (cond m C (cond (a && p) D None)))) ≡ None
tests true s t m p a A B C D x y z = refl
tests false s t m p true A B C D x y z = rw (x, y, z) refl
tests false s t m p false A B C D x y z = rw (x, y) refl

-- a good line that is not the first
faultless : (in_audio : Bool) (n : ℕ) (line : List ℕ) → IsGoodLine line → line_fault false in_audio n line ≡ None
faultless in_audio n line good =
    tests (is_empty_line line) (not (bytes_eq line (codes "v=0"))) (is_typed line) (is_bad_media line) (is_bad_mapping line) in_audio
    (Some Start) (Some (Line n)) (Some (Media n)) (Some (Map n)) good.typed good.media good.mapping

-- lines that begin with `v=0`
begun_good : (others : List (List ℕ)) → AllByRecursion IsGoodLine others → (k : ℕ) → k < length (codes "v=0" ∷ others)
    → fault_at (codes "v=0" ∷ others) k ≡ None
begun_good others good zero within = refl
begun_good others good (suc k) within =
    faultless (is_in_audio (take (suc k) (codes "v=0" ∷ others))) (suc k + 1) (get_or others k [])
    (All-from_recursion IsGoodLine others good k [] (omega (arith, within)))

literal_good : (line : List ℕ) → is_typed line ≡ true → is_bad_media line ≡ false → is_bad_mapping line ≡ false → lacks 10 line ≡ true → IsGoodLine line
literal_good line t m p f = record { typed = t; media = m; mapping = p; feed = f }

-- the lines of the session after the first, and those of the outputs
session_good : (more : List (List ℕ)) → AllByRecursion IsGoodLine more
    → AllByRecursion IsGoodLine (codes "o=- 0 0 IN IP4 127.0.0.1" ∷ codes "s=chanmap" ∷ codes "c=IN IP4 127.0.0.1" ∷ codes "t=0 0" ∷ more)
session_good more good = (
  literal_good (codes "o=- 0 0 IN IP4 127.0.0.1") refl refl refl refl,
  (
    literal_good (codes "s=chanmap") refl refl refl refl,
    (literal_good (codes "c=IN IP4 127.0.0.1") refl refl refl refl, (literal_good (codes "t=0 0") refl refl refl refl, good)),
  ),
)

-- ---- streams

one_attribute : (line : List ℕ) (rest : List (List ℕ)) → is_media line ≡ false → attributes_in (line ∷ rest) ≡ line ∷ attributes_in rest
one_attribute line rest e =
    take_while-cons (λ l. not (is_media l)) line rest ∙ ap (λ t. cond (not t) (line ∷ attributes_in rest) []) e

no_attribute : (line : List ℕ) (rest : List (List ℕ)) → is_media line ≡ true → attributes_in (line ∷ rest) ≡ []
no_attribute line rest e =
    take_while-cons (λ l. not (is_media l)) line rest ∙ ap (λ t. cond (not t) (line ∷ attributes_in rest) []) e

ptime_attributes : (test : Bool) (micros : ℕ) (rest : List (List ℕ)) → attributes_in rest ≡ []
    → attributes_in (cond test (ptime_line micros ∷ []) [] ++ rest) ≡ cond test (ptime_line micros ∷ []) []
ptime_attributes true micros rest e =
    one_attribute (ptime_line micros) rest (ptime_line_is micros) ∙ ap (λ (ls : List (List ℕ)). ptime_line micros ∷ ls) e
ptime_attributes false micros rest e = e

-- no line of a further section comes first
outputs_begin : (rate : Rate) (number : ℕ) (outputs : List Output)
    → attributes_in (flat_map (output_lines rate) (enumerate_from number outputs)) ≡ []
outputs_begin rate number [] = refl
outputs_begin rate number (output ∷ outputs) =
    no_attribute (media_line (port_to number) output.payload_type)
    ((mapping_line output.payload_type output.width rate.hz (length output.labels) ∷ ptime_lines rate)
    ++ flat_map (output_lines rate) (enumerate_from (number + 1) outputs))
    (media_line_is (port_to number) output.payload_type)

-- a line that begins no section of audio
no_section : (line : List ℕ) (below : List (List ℕ)) → line_audio line ≡ None
    → filter_map stream_of (sections (line ∷ below)) ≡ filter_map stream_of (sections below)
no_section line below none =
    sections_more line below
    ∙ ap (λ (o : Option Stream). cons_option o (filter_map stream_of (sections below))) (no_audio line (attributes_in below) none)

ptime_section : (test : Bool) (micros : ℕ) (below : List (List ℕ))
    → filter_map stream_of (sections (cond test (ptime_line micros ∷ []) [] ++ below)) ≡ filter_map stream_of (sections below)
ptime_section true micros below = no_section (ptime_line micros) below (ptime_no_audio micros)
ptime_section false micros below = refl

-- the stream of the section of an output
output_section : (rate : Rate) (number : ℕ) (output : Output) → IsSent rate number output
    → stream_of (section (media_line (port_to number) output.payload_type)
    (mapping_line output.payload_type output.width rate.hz (length output.labels) ∷ ptime_lines rate)) ≡ Some (output_stream rate (number, output))
output_section rate number output s =
    let type = output.payload_type in
    let port = port_to number in
    let mapping = mapping_line type output.width rate.hz (length output.labels) in
    let attributes = mapping ∷ ptime_lines rate in
    ap (λ (o : Option RtpAudio). o >>= λ audio. first_given (λ t. option_map (stream_by audio.port t) (format_in attributes t)) audio.types)
    (audio_is port type s.port s.type)
    ∙ ap (λ (o : Option Format). option_or (option_map (stream_by port type) (option_or (option_or o (first_given (format_for type) (ptime_lines rate))) (static_format type))) None)
    (mapping_gives type output.width rate.hz (length output.labels) s.type s.sampling)

outputs_read : (rate : Rate) (number : ℕ) (outputs : List Output) → AreSent rate number outputs
    → filter_map stream_of (sections (flat_map (output_lines rate) (enumerate_from number outputs)))
    ≡ map (output_stream rate) (enumerate_from number outputs)
outputs_read rate number [] s = refl
outputs_read rate number (output ∷ outputs) s =
    let type = output.payload_type in
    let media = media_line (port_to number) type in
    let mapping = mapping_line type output.width rate.hz (length output.labels) in
    let test = eqb (rate.frames * 10 ^ 6 % rate.hz) 0 in
    let micros = rate.frames * 10 ^ 6 / rate.hz in
    let others = flat_map (output_lines rate) (enumerate_from (number + 1) outputs) in
    let below : List (List ℕ) = mapping ∷ (ptime_lines rate ++ others) in
    let attributes : attributes_in below ≡ mapping ∷ ptime_lines rate =
    one_attribute mapping (ptime_lines rate ++ others) (mapping_line_is type output.width rate.hz (length output.labels))
    ∙ ap (λ (ls : List (List ℕ)). mapping ∷ ls) (ptime_attributes test micros others (outputs_begin rate (number + 1) outputs)) in
    let rest : filter_map stream_of (sections below) ≡ map (output_stream rate) (enumerate_from (number + 1) outputs) =
    no_section mapping (ptime_lines rate ++ others) (mapping_no_audio type output.width rate.hz (length output.labels))
    ∙ ptime_section test micros others ∙ outputs_read rate (number + 1) outputs s.1 in
    sections_more media below
    ∙ ap (λ (ls : List (List ℕ)). cons_option (stream_of (section media ls)) (filter_map stream_of (sections below))) attributes
    ∙ ap (λ (o : Option Stream). cons_option o (filter_map stream_of (sections below))) (output_section rate number output s.0)
    ∙ ap (λ (ss : List Stream). output_stream rate (number, output) ∷ ss) rest

-- ---- devices

hz_within : (rate : Rate) → IsRate rate → (1 ≤ rate.hz) × (rate.hz < 2 ^ 32)
hz_within rate is = (omega (arith, is.0), omega (arith, is.0))

sent_from : (rate : Rate) (number : ℕ) (outputs : List Output) → IsRate rate → number + length outputs ≤ 64
    → AllByRecursion (λ o. AreChannels o.labels) outputs → AllByRecursion (λ o. IsPayloadType o.payload_type) outputs → AreSent rate number outputs
sent_from rate number [] is few channels types = tt
sent_from rate number (output ∷ outputs) is few channels types = (
  record {
    rate_is = is;
    port = omega (arith, few);
    type = types.0;
    sampling = (let hz = hz_within rate is in (hz.0, hz.1, channels.0.0, omega (arith, channels.0.1)));
  },
  sent_from rate (number + 1) outputs is (omega (arith, few)) channels.1 types.1,
)

sent : (d : DeviceParts) → IsDevice d → AreSent d.rate 0 d.outputs
sent d is =
    sent_from d.rate 0 d.outputs is.bounds.rate (omega (arith, is.bounds.few_outputs))
    (recursion_from_All (λ o. AreChannels o.labels) d.outputs is.streams.outputs)
    (recursion_from_All (λ o. IsPayloadType o.payload_type) d.outputs is.streams.output_types)

all_good : (d : DeviceParts) → IsDevice d → AllByRecursion IsGoodLine (sdp_lines d)
all_good d is = (literal_good (codes "v=0") refl refl refl refl, session_good _ (outputs_good d.rate 0 d.outputs (sent d is)))

-- the lines after the first
abbrev others_of : DeviceParts → List (List ℕ)
others_of d =
    codes "o=- 0 0 IN IP4 127.0.0.1" ∷ codes "s=chanmap" ∷ codes "c=IN IP4 127.0.0.1" ∷ codes "t=0 0"
    ∷ flat_map (output_lines d.rate) (enumerate_from 0 d.outputs)

-- the lines of the text are those that are written
pub lines_read : (d : DeviceParts) → IsDevice d → lines (sdp_text d) ≡ sdp_lines d
lines_read d is = ended_lines (sdp_lines d) (all_good d is)

pub text_good : (d : DeviceParts) → IsDevice d → HasNoFault (sdp_text d)
text_good d is =
    let e = lines_read d is in
    record {
      good = λ k within. subst (λ (ls : List (List ℕ)). fault_at ls k ≡ None) (sym e)
          (begun_good (others_of d) (all_good d is).1 k (subst (λ (ls : List (List ℕ)). k < length ls) e within));
      begun = ap is_blank e;
    }

pub text_streams : (d : DeviceParts) → IsDevice d → sdp_streams (sdp_text d) ≡ device_streams d
text_streams d is =
    ap (λ (ls : List (List ℕ)). filter_map stream_of (sections ls)) (lines_read d is)
    ∙ outputs_read d.rate 0 d.outputs (sent d is)
