-- A packet that covers all frames of a tick that holds none.
use Rattle.std.proofs.Common.{◌≡◌, ℕ, zero, suc, ◌+◌, ◌-◌, ◌*◌, ◌/◌, ◌<◌, ◌≤◌, Bool, true, false}
use Rattle.std.proofs.Common.{List, [], ◌∷◌, ◌++◌, length, take, drop, map, Option, Some, None}
use Rattle.std.proofs.Common.{refl, sym, ap, ◌∙◌, arith, ℤ, pos, subst}
use Rattle.std.specs.Prelude.{is_some, unwrap_or, replicate, IfSome, not, ◌&&◌, ◌||◌}
use Rattle.std.specs.List.{count_by, flat_map, list_any, range_with_len}
use Rattle.std.proofs.lemmas.List.FromFn.{length-map-range_with_len}
use Rattle.io_caps.specs.Rate.{bytes_per_sample}
use Rattle.io_caps.specs.declared.rate.Width.{Width}
use Rattle.rtp_pcm.specs.Pcm.{sample_of}
use Rattle.block_builder.specs.declared.intake.Intake.{Intake}
use Rattle.block_builder.specs.Blocks.{Piece, Held, covers, piece_at, frame_bytes, piece_frame}
use Rattle.block_builder.specs.Blocks.{samples_in, samples_of, tick_place}
use Rattle.block_builder.specs.Window.{IsShown, IsTickPart, added, fresh_at, held_flags, is_fresh}
use Rattle.block_builder.proofs.Frames.{none_of, fresh_is}
use Rattle.block_builder.proofs.Ranges.{count_more, none_any}
use Rattle.std.proofs.lemmas.List.{drop-drop, get_or-replicate, length-drop, length-replicate}
use Rattle.std.proofs.lemmas.List.{map-append}
use Rattle.std.proofs.lemmas.List.FromFn.{fill_by_all}
use Rattle.std.proofs.Math.Nat.{add-mul, div-mul-le_self, mul_assoc, mul-le-mul}
use Rattle.list_laws.proofs.Ranges.{flat_map_more, map_same, flat_map_same, range_parts}
use Rattle.block_builder.proofs.Filling.{covered}

map_shift : {X : Type 0} (f : ℕ → X) (a k n : ℕ)
    → map f (range_with_len (a + k) n) ≡ map (λ i. f (a + i)) (range_with_len k n)
map_shift {X} f a k zero = refl
map_shift {X} f a k (suc n) =
    let e : a + k + 1 ≡ a + (k + 1) = omega arith in
    ap (λ (xs : List X). f (a + k) ∷ xs)
    (ap (λ (j : ℕ). map f (range_with_len j n)) e ∙ map_shift f a (k + 1) n)

-- where the sample of a frame begins
place_of : (m ch i size : ℕ) → (m * ch + i) * size ≡ m * (ch * size) + i * size
place_of m ch i size = add-mul (m * ch) i size ∙ ap (λ (k : ℕ). k + i * size) (mul_assoc m ch size)

-- a sample of the last frame
last_frame : (w : Width) (b : List ℕ) (ch m i : ℕ)
    → sample_of w (take (bytes_per_sample w) (drop ((m * ch + i) * bytes_per_sample w) b))
    ≡ sample_of w (take (bytes_per_sample w)
    (drop (i * bytes_per_sample w) (drop (m * (ch * bytes_per_sample w)) b)))
last_frame w b ch m i =
    let size = bytes_per_sample w in
    ap (λ (xs : List ℕ). sample_of w (take size xs))
    (ap (λ (k : ℕ). drop k b) (place_of m ch i size)
    ∙ sym (drop-drop (i * size) (m * (ch * size)) b))

-- samples are those of one frame after the other
pub samples_parts : (w : Width) (b : List ℕ) (ch frames : ℕ)
    → samples_in w (frames * ch) b
    ≡ flat_map (λ f. samples_in w ch (drop (f * (ch * bytes_per_sample w)) b))
    (range_with_len 0 frames)
samples_parts w b ch zero =
    let none : 0 * ch ≡ 0 = omega arith in
    ap (λ (k : ℕ). samples_in w k b) none
samples_parts w b ch (suc m) =
    let size = bytes_per_sample w in
    let g = λ (i : ℕ). sample_of w (take size (drop (i * size) b)) in
    let parts = λ (f : ℕ). samples_in w ch (drop (f * (ch * size)) b) in
    let more : m + 1 ≡ suc m = omega arith in
    let one : 1 * ch ≡ ch = omega arith in
    let count : suc m * ch ≡ m * ch + ch = ap (λ (k : ℕ). k * ch) (sym more) ∙ add-mul m 1 ch
    ∙ ap (λ (k : ℕ). m * ch + k) one in
    let start : m * ch ≡ m * ch + 0 = omega arith in
    let begins : 0 + m * ch ≡ m * ch = omega arith in
    let moved : map g (range_with_len (m * ch) ch) ≡ samples_in w ch (drop (m * (ch * size)) b) =
    ap (λ (k : ℕ). map g (range_with_len k ch)) start ∙ map_shift g (m * ch) 0 ch
    ∙ map_same _ _ 0 ch (λ i _ _. last_frame w b ch m i) in
    ap (λ (k : ℕ). map g (range_with_len 0 k)) count
    ∙ ap (map g) (range_parts 0 (m * ch) ch
    ∙ ap (λ (k : ℕ). range_with_len 0 (m * ch) ++ range_with_len k ch) begins)
    ∙ map-append g (range_with_len 0 (m * ch)) (range_with_len (m * ch) ch)
    ∙ ap (λ (xs : List ℤ). xs ++ map g (range_with_len (m * ch) ch)) (samples_parts w b ch m)
    ∙ ap (λ (xs : List ℤ). flat_map parts (range_with_len 0 m) ++ xs) moved
    ∙ sym (flat_map_more parts m) ∙ ap (λ (k : ℕ). flat_map parts (range_with_len 0 k)) more

-- ---- a tick that holds nothing

any_map : (g : ℕ → Bool) (xs : List ℕ) → list_any (λ flag. flag) (map g xs) ≡ list_any g xs
any_map g [] = refl
any_map g (x ∷ xs) = ap (λ (b : Bool). g x || b) (any_map g xs)

count_all : (p : ℕ → Bool) (n : ℕ) → ((k : ℕ) → k < n → p k ≡ true)
    → count_by p (range_with_len 0 n) ≡ n
count_all p zero h = refl
count_all p (suc n) h =
    let more : n + 1 ≡ suc n = omega arith in
    ap (λ (k : ℕ). count_by p (range_with_len 0 k)) (sym more)
    ∙ count_more p n true (h n (omega arith))
    ∙ ap (λ (k : ℕ). k + 1) (count_all p n (λ k lt. h k (omega (arith, lt)))) ∙ more

is_new : (n : Intake) (p : Piece) (tick : ℕ) (c : Held) (f : ℕ)
    → covers (tick_place n tick + f) p ≡ true → c f ≡ None → is_fresh n p tick c f ≡ true
is_new n p tick c f cov none =
    ap (λ (o : Option (List ℤ)). covers (tick_place n tick + f) p && not (is_some o)) none
    ∙ ap (λ (b : Bool). b && true) cov

-- no flag is set: no frame holds anything
pub nothing_held : (n : Intake) (c : Held) (h : List Bool) → h ≡ held_flags n c
    → list_any (λ flag. flag) h ≡ false → (f : ℕ) → f < n.frames → c f ≡ None
nothing_held n c h e none f lt =
    none_of (c f) (none_any (λ k. is_some (c k)) 0 n.frames
    (sym (any_map (λ k. is_some (c k)) (range_with_len 0 n.frames))
    ∙ ap (list_any (λ flag. flag)) (sym e) ∙ none) f (omega arith) (omega (arith, lt)))

-- the samples of a frame of the tick
frame_part : (n : Intake) (p : Piece) (tick : ℕ) (part : List ℕ) (f : ℕ)
    → p.first ≤ tick_place n tick
    → part ≡ drop ((tick_place n tick - p.first) * frame_bytes n) p.payload
    → piece_frame n (tick_place n tick + f) p ≡ samples_of n (drop (f * frame_bytes n) part)
frame_part n p tick part f after is =
    let behind = tick_place n tick - p.first in
    let far : tick_place n tick + f - p.first ≡ behind + f = omega (arith, after) in
    ap (samples_of n)
    (ap (λ (k : ℕ). drop (k * frame_bytes n) p.payload) far
    ∙ ap (λ (k : ℕ). drop k p.payload) (add-mul behind f (frame_bytes n))
    ∙ sym (drop-drop (f * frame_bytes n) (behind * frame_bytes n) p.payload)
    ∙ ap (drop (f * frame_bytes n)) (sym is))

-- what a frame holds now
pub frame_held : (n : Intake) (p : Piece) (tick : ℕ) (part : List ℕ) (c : Held) (f : ℕ)
    → IsTickPart n p tick part → c f ≡ None → f < n.frames
    → added n p tick c f ≡ Some (samples_of n (drop (f * frame_bytes n) part))
frame_held n p tick part c f whole none lt =
    fresh_is n p tick f c (samples_of n (drop (f * frame_bytes n) part)) none (whole.covered f lt)
    (sym (frame_part n p tick part f whole.after whole.part_is))

-- the tick shows the samples of all its frames
pub whole_shown : (n : Intake) (p : Piece) (tick : ℕ) (part : List ℕ) (c : Held) (s : List ℤ)
    (h : List Bool) → IsTickPart n p tick part
    → list_any (λ flag. flag) h ≡ false → IsShown n c s h
    → IsShown n (added n p tick c) (samples_in n.width (n.frames * n.channels) part)
    (replicate n.frames true)
whole_shown n p tick part c s h whole none shown =
    let held : (f : ℕ) → f < n.frames
    → added n p tick c f ≡ Some (samples_of n (drop (f * frame_bytes n) part)) =
    λ f lt. frame_held n p tick part c f whole (nothing_held n c h shown.flags_are none f lt) lt in
    let silence = replicate n.channels (pos 0) in
    record {
      samples_are =
          samples_parts n.width part n.channels n.frames
          ∙ flat_map_same _ _ 0 n.frames
          (λ f le lt. sym (ap (λ (o : Option (List ℤ)). unwrap_or o silence)
          (held f (omega (arith, lt)))));
      flags_are =
          fill_by_all (λ f. is_some (added n p tick c f)) (replicate n.frames true) n.frames false
          (length-replicate n.frames true)
          (λ f lt. get_or-replicate n.frames f true false lt ∙ sym (ap is_some (held f lt)));
      whole = λ f lt. subst (λ (o : Option (List ℤ)). IfSome o (λ x. length x ≡ n.channels))
          (sym (held f lt)) (length-map-range_with_len _ 0 n.channels);
    }

-- all of its frames are the first
pub whole_count : (n : Intake) (p : Piece) (tick : ℕ) (part : List ℕ) (c : Held) (s : List ℤ)
    (h : List Bool) → IsTickPart n p tick part
    → list_any (λ flag. flag) h ≡ false → IsShown n c s h → n.frames ≡ fresh_at n p tick c
whole_count n p tick part c s h whole none shown =
    sym (count_all (is_fresh n p tick c) n.frames
    (λ f lt. is_new n p tick c f (whole.covered f lt)
    (nothing_held n c h shown.flags_are none f lt)))

-- ---- where a packet covers a tick

-- a given number of frames after others are there
pub frames_there : (behind frames len fb : ℕ) → behind + frames ≤ len / fb
    → behind * fb + frames * fb ≤ len
frames_there behind frames len fb le =
    let whole : (behind + frames) * fb ≤ len / fb * fb = mul-le-mul le (omega arith) in
    omega (arith, whole, div-mul-le_self len fb, add-mul behind frames fb)

-- what there is from the first frame of the tick on
pub is_part : (n : Intake) (first tick start fb : ℕ) (payload part : List ℕ)
    → start ≡ tick_place n tick → fb ≡ frame_bytes n → first ≤ start
    → start - first + n.frames ≤ length payload / fb → part ≡ drop ((start - first) * fb) payload
    → IsTickPart n (piece_at n first payload) tick part
is_part n first tick start fb payload part here bytes after room is =
    let there = frames_there (start - first) n.frames (length payload) fb room in
    let p = piece_at n first payload in
    let count : length payload / fb ≡ p.count = ap (λ (b : ℕ). length payload / b) bytes in
    let long : length part ≡ length payload - (start - first) * fb = ap length is
    ∙ length-drop ((start - first) * fb) payload in
    record {
      covered = λ f lt. covered (tick_place n tick + f) p (omega (arith, here, after))
          (omega (arith, here, after, room, count, lt));
      after = omega (arith, here, after);
      part_is =
          is ∙ ap (λ (k : ℕ). drop ((k - first) * fb) payload) here
          ∙ ap (λ (b : ℕ). drop ((tick_place n tick - first) * b) payload) bytes;
      there = omega (arith, there, long, ap (λ (b : ℕ). n.frames * b) bytes);
    }
