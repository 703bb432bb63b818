-- Pieces of a payload: one more channel of their frames, and their text once all channels are
-- there.
use Rattle.std.proofs.Common.{◌≡◌, ◌≢◌, ℕ, zero, suc, replicate, ◌+◌, ◌-◌, ◌*◌, ◌%◌, ◌<◌, List, []}
use Rattle.std.proofs.Common.{◌∷◌, ◌++◌, ℤ, pos, length, get_or, take, drop, map, inl, inr, refl}
use Rattle.std.proofs.Common.{sym, ap, ◌∙◌, arith}
use Rattle.std.specs.List.{flat_map, range_with_len}
use Rattle.std.proofs.lemmas.List.{drop-drop, drop-take, take-take, length-take-le, length-drop}
use Rattle.std.proofs.lemmas.List.Folds.{flat_map-map}
use Rattle.std.proofs.lemmas.List.FromFn.{get_or-range_with_len, get_or-map-range_with_len}
use Rattle.std.proofs.lemmas.List.FromFn.{length-range_with_len}
use Rattle.std.proofs.lemmas.Bool.{cases_lt}
use Rattle.std.proofs.lemmas.Nat.{mod-mul-add}
use Rattle.std.proofs.Math.Nat.{add-mul, mul_assoc}
use Rattle.list_laws.proofs.Parts.{part_within}
use Rattle.io_caps.specs.declared.port.Input.{Input}
use Rattle.io_caps.specs.declared.rate.Width.{Width}
use Rattle.io_caps.specs.Rate.{bytes_per_sample}
use Rattle.map_entry.specs.declared.cell.Cell.{Cell}
use Rattle.map_entry.specs.declared.cell.Cell.TheVariants.{Unrouted}
use Rattle.rtp_pcm.specs.Pcm.{bytes_of_sample, payload_of}
use Rattle.rtp_pcm.proofs.PcmLaws.{payload_of-append}
use Rattle.packet_writer.specs.Heard.{TickBlocks, heard}
use Rattle.packet_writer.specs.Slots.{slot}
use Rattle.packet_writer.proofs.Slots.{cut}

-- a cell that is routed from nothing
pub silent_cell : (inputs : List Input) (b : TickBlocks) (from n : ℕ)
    → replicate n (pos 0) ≡ map (λ f. heard inputs b f Unrouted) (range_with_len from n)
silent_cell inputs b from zero = refl
silent_cell inputs b from (suc n) =
    ap (λ (z : List ℤ). pos 0 ∷ z) (silent_cell inputs b (from + 1) n)

-- one more channel
pub piece_more : (width : Width) (w n cell frame frames : ℕ) (S : ℕ → Cell → ℤ) (row : List Cell)
    (xs ys : List ℕ) (samples : List ℤ) (x : Cell) → cell < n
    → ((p : ℕ) → p % n ≢ cell → slot w p ys ≡ slot w p xs)
    → ((f : ℕ) (d : ℤ) → f < length samples
    → slot w (f * n + cell) ys ≡ bytes_of_sample width (get_or samples f d))
    → length samples ≡ frames → samples ≡ map (λ f. S f x) (range_with_len frame frames)
    → ((d : Cell) → x ≡ get_or row cell d)
    → ((f c : ℕ) (d : Cell) → f < frames → c < cell
    → slot w (f * n + c) xs ≡ bytes_of_sample width (S (frame + f) (get_or row c d)))
    → (f c : ℕ) (d : Cell) → f < frames → c < cell + 1
    → slot w (f * n + c) ys ≡ bytes_of_sample width (S (frame + f) (get_or row c d))
piece_more width w n cell frame frames S row xs ys samples x there kept put long are is before f c d
    lf lc = elim (cases_lt c cell) [
      | inl less ↦
          let rem : (f * n + c) % n ≡ c = mod-mul-add f n c (omega (arith, less, there)) in
          kept (f * n + c) (λ e. omega (arith, less, e, rem)) ∙ before f c d lf less
      | inr more ↦
          let same : c ≡ cell = omega (arith, lc, more) in
          let value : get_or samples f (pos 0) ≡ S (frame + f) x =
          ap (λ (z : List ℤ). get_or z f (pos 0)) are
          ∙ get_or-map-range_with_len (λ f. S f x) frame frames f (frame + f) (pos 0) lf refl in
          rw same (put f (pos 0) (omega (arith, lf, long))
          ∙ ap (bytes_of_sample width) (value ∙ ap (S (frame + f)) (is d)))
    ]

-- a sample's place in a frame's part
place_of : (i n c w : ℕ) → i * (n * w) + c * w ≡ (i * n + c) * w
place_of i n c w = omega (arith, mul_assoc i n w, add-mul (i * n) c w)

within : (w n i c : ℕ) (out : List ℕ) → c < n
    → slot w c (slot (n * w) i out) ≡ slot w (i * n + c) out
within w n i c out lt =
    let z = drop (i * (n * w)) out in
    let room = part_within n c w lt in
    let whole : c * w + (n * w - c * w) ≡ n * w = omega (arith, room) in
    let part : drop (c * w) (take (n * w) z) ≡ take (n * w - c * w) (drop (c * w) z) =
    ap (λ (k : ℕ). drop (c * w) (take k z)) (sym whole) ∙ drop-take (c * w) (n * w - c * w) z in
    ap (take w) part ∙ take-take w (n * w - c * w) (drop (c * w) z) (omega (arith, room))
    ∙ ap (take w) (drop-drop (c * w) (i * (n * w)) out
    ∙ ap (λ (k : ℕ). drop k out) (place_of i n c w))

long_part : (w n i frames : ℕ) (out : List ℕ) → length out ≡ frames * n * w → i < frames
    → length (slot (n * w) i out) ≡ n * w
long_part w n i frames out long lt =
    let room = part_within frames i (n * w) lt in
    length-take-le (n * w) (drop (i * (n * w)) out)
    (rw (length-drop (i * (n * w)) out) (omega (arith, room, long, mul_assoc frames n w)))

payload_of-flat_map : {A : Type 0} (width : Width) (g : A → List ℤ) (xs : List A)
    → flat_map (λ x. payload_of width (g x)) xs ≡ payload_of width (flat_map g xs)
unfolding payload_of
payload_of-flat_map width g [] = refl
payload_of-flat_map width g (x ∷ xs) =
    ap (λ (z : List ℕ). payload_of width (g x) ++ z) (payload_of-flat_map width g xs)
    ∙ sym (payload_of-append width (g x) (flat_map g xs))

payload_of-map : (width : Width) (s : Cell → ℤ) (row : List Cell)
    → flat_map (λ x. bytes_of_sample width (s x)) row ≡ payload_of width (map s row)
unfolding payload_of
payload_of-map width s row = sym (flat_map-map (bytes_of_sample width) s row)

-- all channels of all frames are there
pub piece_is : (width : Width) (S : ℕ → Cell → ℤ) (row : List Cell) (frame frames : ℕ)
    (out : List ℕ) → length out ≡ frames * length row * bytes_per_sample width
    → ((f c : ℕ) (d : Cell) → f < frames → c < length row
    → slot (bytes_per_sample width) (f * length row + c) out
    ≡ bytes_of_sample width (S (frame + f) (get_or row c d)))
    → out ≡ payload_of width (flat_map (λ f. map (S f) row) (range_with_len frame frames))
piece_is width S row frame frames out long each =
    let w = bytes_per_sample width in
    let n = length row in
    let h = λ (f : ℕ). payload_of width (map (S f) row) in
    let whole : length out ≡ length (range_with_len frame frames) * (n * w) = long
    ∙ mul_assoc frames n w ∙ ap (λ (k : ℕ). k * (n * w))
    (sym (length-range_with_len frame frames)) in
    cut h (n * w) (range_with_len frame frames) out whole
    (λ i d lt.
    let less : i < frames = omega (arith, lt, length-range_with_len frame frames) in
    let at = get_or-range_with_len frame frames i d less in
    cut (λ (x : Cell). bytes_of_sample width (S (frame + i) x)) w row (slot (n * w) i out)
    (long_part w n i frames out long less) (λ c e lc. within w n i c out lc ∙ each i c e less lc)
    ∙ payload_of-map width (S (frame + i)) row ∙ ap h (sym at))
    ∙ payload_of-flat_map width (λ (f : ℕ). map (S f) row) (range_with_len frame frames)
