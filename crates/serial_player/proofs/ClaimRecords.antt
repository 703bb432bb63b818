-- A claim fits the fields of a result.
use Rattle.std.proofs.Common.{◌≡◌, ℕ, ◌^◌, ◌<◌, Bool, true, false, List, [], ◌∷◌, ◌++◌, length}
use Rattle.std.proofs.Common.{refl, ap, ◌∙◌, arith}
use Rattle.std.specs.List.{AllByRecursion, flat_map}
use Rattle.std.proofs.lemmas.List.{length-append}
use Rattle.std.proofs.lemmas.List.Concat.{flat_map-cons}
use Rattle.byteorder.specs.Numbers.{length-bytes_high_first}
use Rattle.io_caps.specs.Device.{IsDevice}
use Rattle.io_caps.specs.declared.device.DeviceParts.{DeviceParts}
use Rattle.packet_writer.specs.Packet.{packet_length}
use Rattle.packet_writer.proofs.PacketLaws.{packet_short}
use Rattle.book_words.specs.History.{claim_item}
use Rattle.exact_text.specs.Forms.{number_text}
use Rattle.capture_file.specs.Device.{flag}
use Rattle.capture_file.specs.Result.{FitsClaim, claim}

number_long : (k n : ℕ) → length (number_text k n) ≡ k
unfolding number_text
number_long k n = length-bytes_high_first k n

flags_fit : (found : List Bool) → AllByRecursion flag.Fits found
unfolding flag
flags_fit [] = tt
flags_fit (true ∷ found) = ((omega arith, refl), flags_fit found)
flags_fit (false ∷ found) = ((omega arith, refl), flags_fit found)

flags_long : (found : List Bool) → length (flat_map flag.text found) ≡ length found
unfolding flag
flags_long [] = refl
flags_long (b ∷ found) =
    ap length (flat_map-cons flag.text b found)
    ∙ omega (arith, length-append (flag.text b) (flat_map flag.text found), flags_long found)

-- with a flag for each input, and a packet as long as its output's
pub claim_record : (d : DeviceParts) (k output : ℕ) (found : List Bool) (packet : List ℕ)
    → k < 256 ^ 8 → length found ≡ length d.inputs → length packet ≡ packet_length d output
    → IsDevice d → FitsClaim d (claim_item k found packet)
unfolding claim
claim_record d k output found packet low long packet_long is =
    let short = packet_short d output is in
    let rest = length-append (flat_map flag.text found) packet in
    let all = length-append (number_text 8 k) (flat_map flag.text found ++ packet) in
    record {
      fits = (low, ((long, flags_fit found), tt));
      short = omega (
        arith,
        all,
        rest,
        number_long 8 k,
        flags_long found,
        long,
        packet_long,
        short,
        is.bounds.few_inputs,
      );
    }
