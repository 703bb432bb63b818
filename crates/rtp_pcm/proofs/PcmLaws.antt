-- Samples that were put are got again, and how long a payload is.
use Rattle.std.proofs.Common.{◌≡◌, ◌<◌, ◌≤◌, ℕ, zero, suc, ◌+◌, ◌*◌, List, [], ◌∷◌}
use Rattle.std.proofs.Common.{◌++◌, length, get_or, take, drop, ℤ, pos, negsuc, refl, sym, ap, ◌∙◌, arith}
use Rattle.std.specs.Prelude.{◌*ℤ◌, ◌≤ℤ◌, ◌<ℤ◌}
use Rattle.std.specs.Int.{w64, int_div_euclid}
use Rattle.std.proofs.lemmas.List.{append-nil, drop_at, drop-drop}
use Rattle.std.proofs.lemmas.Grind.{flat_map-append}
use Rattle.byteorder.specs.Endian.{low_bytes, twos_complement}
use Rattle.byteorder.specs.Numbers.{big_from-take, big_number-reads_back}
use Rattle.io_caps.specs.declared.rate.Width.{Width}
use Rattle.io_caps.specs.declared.rate.Width.TheVariants.{L16, L24}
use Rattle.io_caps.specs.Rate.{bytes_per_sample}
use Rattle.rtp_pcm.specs.Pcm.{IsSample, sample_of, bytes_of_sample, kept_sample, payload_of}

pub length-bytes_of_sample : (width : Width) (z : ℤ) → length (bytes_of_sample width z) ≡ bytes_per_sample width
length-bytes_of_sample L16 z = refl
length-bytes_of_sample L24 z = refl

-- the number that was written is read again, whatever follows
sixteen_bits : (z : ℤ) → negsuc 32767 ≤ℤ z → z <ℤ pos 32768 → twos_complement 2 (low_bytes w64 2 z) ≡ z
sixteen_bits (pos n) low high = grind arith
sixteen_bits (negsuc n) low high = grind arith

twenty_four_bits : (z : ℤ) → IsSample z → twos_complement 3 (low_bytes w64 3 z) ≡ z
twenty_four_bits (pos n) h = grind arith
twenty_four_bits (negsuc n) h = grind arith

scaled : (z : ℤ) → IsSample z → (negsuc 32767 ≤ℤ int_div_euclid z (pos 256)) × (int_div_euclid z (pos 256) <ℤ pos 32768)
scaled (pos n) h = (grind arith, grind arith)
scaled (negsuc n) h = (grind arith, grind arith)

-- A sample that was put is got again, whatever follows it: itself in L24, and in L16 the multiple
-- of 256 at or below it.
pub sample_again : (width : Width) (z : ℤ) (rest : List ℕ) → IsSample z → sample_of width (bytes_of_sample width z ++ rest) ≡ kept_sample width z
sample_again L16 z rest h =
    let s = scaled z h in
    ap (λ (n : ℕ). twos_complement 2 n *ℤ pos 256) (big_number-reads_back 2 (low_bytes w64 2 (int_div_euclid z (pos 256))) rest (omega arith))
    ∙ ap (λ (x : ℤ). x *ℤ pos 256) (sixteen_bits (int_div_euclid z (pos 256)) s.0 s.1)
sample_again L24 z rest h =
    ap (twos_complement 3) (big_number-reads_back 3 (low_bytes w64 3 z) rest (omega arith)) ∙ twenty_four_bits z h

-- A payload has the bytes of each sample.
pub length-payload_of : (width : Width) (samples : List ℤ) → length (payload_of width samples) ≡ length samples * bytes_per_sample width
unfolding payload_of
length-payload_of L16 [] = refl
length-payload_of L24 [] = refl
length-payload_of L16 (z ∷ samples) = let e = length-payload_of L16 samples in omega (arith, e)
length-payload_of L24 (z ∷ samples) = let e = length-payload_of L24 samples in omega (arith, e)

-- The payload of samples in two parts is the payloads of the parts.
pub payload_of-append : (width : Width) (xs ys : List ℤ) → payload_of width (xs ++ ys) ≡ payload_of width xs ++ payload_of width ys
unfolding payload_of
payload_of-append width xs ys = flat_map-append (bytes_of_sample width) xs ys

-- The payload of one sample is its bytes.
pub payload_of-one : (width : Width) (z : ℤ) → payload_of width (z ∷ []) ≡ bytes_of_sample width z
unfolding payload_of
payload_of-one width z = append-nil (bytes_of_sample width z)

-- Only the bytes of one sample are read.
pub sample_of-take : (width : Width) (n : ℕ) (bytes : List ℕ) → bytes_per_sample width ≤ n → sample_of width (take n bytes) ≡ sample_of width bytes
sample_of-take L16 n bytes h = ap (λ (x : ℕ). twos_complement 2 x *ℤ pos 256) (big_from-take 0 2 n bytes h)
sample_of-take L24 n bytes h = ap (twos_complement 3) (big_from-take 0 3 n bytes h)

next : (width : Width) (n : ℕ) → suc n * bytes_per_sample width ≡ bytes_per_sample width + n * bytes_per_sample width
next L16 n = omega arith
next L24 n = omega arith

-- The sample at a place of a payload is the one that was put there, as far as the stream keeps it.
pub sample_in_payload : (width : Width) (samples : List ℤ) (at : ℕ) → at < length samples
    → ((i : ℕ) → i < length samples → IsSample (get_or samples i (pos 0)))
    → sample_of width (drop (at * bytes_per_sample width) (payload_of width samples)) ≡ kept_sample width (get_or samples at (pos 0))
unfolding payload_of
sample_in_payload width [] at h fits = absurd (omega arith)
sample_in_payload width (z ∷ samples) zero h fits =
    let none : 0 * bytes_per_sample width ≡ 0 = omega arith in
    ap (λ (n : ℕ). sample_of width (drop n (payload_of width (z ∷ samples)))) none
    ∙ sample_again width z (payload_of width samples) (fits 0 (omega arith))
sample_in_payload width (z ∷ samples) (suc at) h fits =
    let step : suc at * bytes_per_sample width ≡ bytes_per_sample width + at * bytes_per_sample width = next width at in
    ap (λ (n : ℕ). sample_of width (drop n (payload_of width (z ∷ samples)))) step
    ∙ ap (sample_of width) (sym (drop-drop (at * bytes_per_sample width) (bytes_per_sample width) (payload_of width (z ∷ samples)))
    ∙ ap (drop (at * bytes_per_sample width)) (drop_at (bytes_of_sample width z) (payload_of width samples) (bytes_per_sample width)
    (length-bytes_of_sample width z)))
    ∙ sample_in_payload width samples at (omega arith) (λ i lt. fits (suc i) (omega arith))
