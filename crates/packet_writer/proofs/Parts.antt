-- Payloads that grow piece by piece.
use Rattle.std.proofs.Common.{◌≡◌, ℕ, ◌+◌, ◌-◌, ◌*◌, ◌<◌, ◌≤◌, List, [], ◌++◌, ℤ, length, take}
use Rattle.std.proofs.Common.{drop, map, Option, Some, None, zero-add, sym, ap, ◌∙◌, arith}
use Rattle.std.specs.List.{flat_map, range_with_len}
use Rattle.std.proofs.lemmas.List.{length-drop, length-take-le}
use Rattle.std.proofs.Math.Nat.{add-mul, mul-le-mul, mul_assoc}
use Rattle.std.proofs.lemmas.Slice.{take-put_mid}
use Rattle.std.proofs.lemmas.Grind.{flat_map-append}
use borrow.Rule.Slice.PartMut.{put_mid}
use Rattle.list_laws.proofs.Ranges.{range_parts, flat_map_same}
use Rattle.packet_writer.specs.Heard.{HasFrames}
use Rattle.io_caps.specs.declared.rate.Width.{Width}
use Rattle.map_entry.specs.declared.cell.Cell.{Cell}
use Rattle.rtp_pcm.specs.Pcm.{payload_of}
use Rattle.rtp_pcm.proofs.PcmLaws.{payload_of-append}

-- one more piece, of frames that one row rules
pub rows_more : (width : Width) (S : ℕ → Cell → ℤ) (rows : ℕ → List Cell) (row : List Cell)
    (frame n at long : ℕ) (xs piece : List ℕ) → at ≤ length xs
    → ((i : ℕ) → frame ≤ i → i < frame + n → rows i ≡ row)
    → take at xs ≡ payload_of width (flat_map (λ f. map (S f) (rows f)) (range_with_len 0 frame))
    → piece ≡ payload_of width (flat_map (λ f. map (S f) row) (range_with_len frame n))
    → long ≡ at + length piece → (k : ℕ)
    → take long (put_mid at k xs piece)
    ≡ payload_of width (flat_map (λ f. map (S f) (rows f)) (range_with_len 0 (frame + n)))
rows_more width S rows row frame n at long xs piece within same before here e k =
    let g = λ (f : ℕ). map (S f) (rows f) in
    let text : flat_map (λ f. map (S f) row) (range_with_len frame n)
    ≡ flat_map g (range_with_len frame n) =
    flat_map_same (λ f. map (S f) row) g frame n
    (λ i from to. ap (λ (r : List Cell). map (S i) r) (sym (same i from to))) in
    take-put_mid at k xs piece long e within
    ∙ ap (λ (z : List ℕ). z ++ piece) before
    ∙ ap (λ (z : List ℕ). payload_of width (flat_map g (range_with_len 0 frame)) ++ z)
    (here ∙ ap (payload_of width) text)
    ∙ sym (payload_of-append width (flat_map g (range_with_len 0 frame))
    (flat_map g (range_with_len frame n)))
    ∙ ap (payload_of width) (sym (flat_map-append g (range_with_len 0 frame)
    (range_with_len frame n)) ∙ ap (flat_map g)
    (sym (range_parts 0 frame n ∙ ap (λ (a : ℕ). range_with_len 0 frame ++ range_with_len a n)
    (zero-add frame))))

-- no frame yet
pub nothing : (width : Width) (n : ℕ) (out : List ℕ) → take (0 * n) out ≡ payload_of width []
unfolding payload_of
nothing width n out = let none : 0 * n ≡ 0 = omega arith in ap (λ (k : ℕ). take k out) none

-- the bytes of the frames from one to another
pub part_bytes : (a u cells w len : ℕ) → a ≤ u → len ≡ cells * w
    → u * len ≡ a * len + (u - a) * cells * w
part_bytes a u cells w len le same =
    let whole : u ≡ a + (u - a) = omega (arith, le) in
    let e : u * len ≡ (a + (u - a)) * len = ap (λ (k : ℕ). k * len) whole in
    let f : (u - a) * len ≡ (u - a) * cells * w = ap (λ (k : ℕ). (u - a) * k) same
    ∙ sym (mul_assoc (u - a) cells w) in
    omega (arith, e, f, add-mul a (u - a) len)

-- they are there
pub part_there : (u frames cells w len : ℕ) (out : List ℕ) → u ≤ frames → len ≡ cells * w
    → length out ≡ frames * cells * w → u * len ≤ length out
part_there u frames cells w len out le same long =
    let h : u * len ≤ frames * len = mul-le-mul le (omega arith) in
    let f : frames * len ≡ frames * cells * w = ap (λ (k : ℕ). frames * k) same
    ∙ sym (mul_assoc frames cells w) in
    omega (arith, h, f, long)

pub part_long : (a u frames cells w len : ℕ) (out : List ℕ) → a ≤ u → u ≤ frames → len ≡ cells * w
    → length out ≡ frames * cells * w
    → length (take (u * len - a * len) (drop (a * len) out)) ≡ (u - a) * cells * w
part_long a u frames cells w len out le within same long =
    let there = part_there u frames cells w len out within same long in
    let size = part_bytes a u cells w len le same in
    length-take-le (u * len - a * len) (drop (a * len) out)
    (rw (length-drop (a * len) out) (omega (arith, there))) ∙ omega (arith, size)

pub fewer_frames : (block : Option (List ℤ)) (channels few frames : ℕ) → few ≤ frames
    → HasFrames block channels frames → HasFrames block channels few
fewer_frames None channels few frames le has = tt
fewer_frames (Some samples) channels few frames le has =
    let h : few * channels ≤ frames * channels = mul-le-mul le (omega arith) in
    omega (arith, h, has)
