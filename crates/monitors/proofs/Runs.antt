-- The lines of monitors, packet by packet.
use Rattle.std.proofs.Common.{◌≡◌, ℕ, zero, suc, ◌+◌, Bool, true, false, not, cond, List, [], ◌∷◌, ◌++◌, length, map, take}
use Rattle.std.proofs.Common.{refl, sym, ap, ◌∙◌, arith, inl, inr}
use Rattle.std.specs.Prelude.{◌==◌, ◌&&◌}
use Rattle.std.specs.List.{filter, flat_map, position_or_len, prefix_len, range_with_len}
use Rattle.std.proofs.lemmas.Bool.{cases_eq, eq-eqb, ne_eqb}
use Rattle.std.proofs.lemmas.List.{append-nil}
use Rattle.std.proofs.lemmas.List.Concat.{flat_map-cons}
use Rattle.std.proofs.lemmas.List.Folds.{flat_map-map}
use Rattle.monitors.specs.declared.packets.Seen.{Seen}
use Rattle.monitors.specs.Lines.{Meaning, fronts, end_of, lines_at, lines_of}
use Rattle.monitors.specs.Lines.{after, retires, retired_lines, remaining, last_lines}

-- ---- meanings

-- two meanings that agree at all packets are one
pub same_meaning : (m n : Meaning) → ((more : List Seen) → m.line more ≡ n.line more)
    → ((more : List Seen) → m.is_finished more ≡ n.is_finished more) → m ≡ n
same_meaning m n line finished = λ i. record { line = λ more. line more i; is_finished = λ more. finished more i }

-- ---- lists

-- a range that begins at the next number
map_shift : {X : Type 0} (f : ℕ → X) (a n : ℕ)
    → map f (range_with_len (a + 1) n) ≡ map (λ k. f (k + 1)) (range_with_len a n)
map_shift f a zero = refl
map_shift {X} f a (suc n) = ap (λ (xs : List X). f (a + 1) ∷ xs) (map_shift f (a + 1) n)

flat_map_shift : {X : Type 0} (f : ℕ → List X) (a n : ℕ)
    → flat_map f (range_with_len (a + 1) n) ≡ flat_map (λ k. f (k + 1)) (range_with_len a n)
flat_map_shift f a zero = refl
flat_map_shift {X} f a (suc n) = ap (λ (xs : List X). f (a + 1) ++ xs) (flat_map_shift f (a + 1) n)

-- a list in front of what is made of each
map-map : {X Y Z : Type 0} (g : Y → Z) (f : X → Y) (xs : List X) → map g (map f xs) ≡ map (λ x. g (f x)) xs
map-map g f [] = refl
map-map {Z = Z} g f (x ∷ xs) = ap (λ (zs : List Z). g (f x) ∷ zs) (map-map g f xs)

prefix_len-map : {X Y : Type 0} (p : Y → Bool) (f : X → Y) (xs : List X)
    → prefix_len p (map f xs) ≡ prefix_len (λ x. p (f x)) xs
prefix_len-map p f [] = refl
prefix_len-map p f (x ∷ xs) = ap (λ (n : ℕ). cond (p (f x)) (1 + n) 0) (prefix_len-map p f xs)

filter-map : {X Y : Type 0} (p : Y → Bool) (f : X → Y) (xs : List X)
    → filter p (map f xs) ≡ map f (filter (λ x. p (f x)) xs)
filter-map p f [] = refl
filter-map {X} {Y} p f (x ∷ xs) = elim (p (f x)) as (λ b. cond b (f x ∷ filter p (map f xs)) (filter p (map f xs))
    ≡ map f (cond b (x ∷ filter (λ y. p (f y)) xs) (filter (λ y. p (f y)) xs))) [
      | true ↦ ap (λ (ys : List Y). f x ∷ ys) (filter-map p f xs)
      | false ↦ filter-map p f xs
    ]

filter-filter : {X : Type 0} (p q : X → Bool) (xs : List X)
    → filter q (filter p xs) ≡ filter (λ x. p x && q x) xs
filter-filter p q [] = refl
filter-filter {X} p q (x ∷ xs) = elim (p x) as (λ b. filter q (cond b (x ∷ filter p xs) (filter p xs))
    ≡ cond (b && q x) (x ∷ filter (λ y. p y && q y) xs) (filter (λ y. p y && q y) xs)) [
      | true ↦ ap (λ (ys : List X). cond (q x) (x ∷ ys) ys) (filter-filter p q xs)
      | false ↦ filter-filter p q xs
    ]

filter_same : {X : Type 0} (p q : X → Bool) (xs : List X) → ((x : X) → p x ≡ q x) → filter p xs ≡ filter q xs
filter_same p q xs same = λ i. filter (λ x. same x i) xs

filter_true : {X : Type 0} (xs : List X) → filter (λ x. true) xs ≡ xs
filter_true [] = refl
filter_true {X} (x ∷ xs) = ap (λ (ys : List X). x ∷ ys) (filter_true xs)

-- ---- the end of a run

-- the fronts of a list with one item more at its front
fronts-cons : {X : Type 0} (x : X) (xs : List X) → fronts (x ∷ xs) ≡ (x ∷ []) ∷ map (λ (front : List X). x ∷ front) (fronts xs)
fronts-cons {X} x xs =
    let next : (k : ℕ) → take (k + 1 + 1) (x ∷ xs) ≡ x ∷ take (k + 1) xs =
    λ k. let e : k + 1 + 1 ≡ suc (k + 1) = omega arith in rw e refl
    in ap (λ (rest : List (List X)). (x ∷ []) ∷ rest)
    (map_shift (λ k. take (k + 1) (x ∷ xs)) 0 (length xs)
    ∙ ap (λ (f : ℕ → List X). map f (range_with_len 0 (length xs))) (λ i k. next k i)
    ∙ sym (map-map (λ (front : List X). x ∷ front) (λ k. take (k + 1) xs) (range_with_len 0 (length xs))))

-- a run ends at the first packet, or later where that does not finish the monitor
end_of-cons : (packet : Seen) (packets : List Seen) (m : Meaning)
    → end_of (packet ∷ packets) m ≡ cond (retires packet m) 0 (suc (end_of packets (after packet m)))
end_of-cons packet packets m =
    ap (position_or_len m.is_finished) (fronts-cons packet packets)
    ∙ elim (retires packet m) as (λ b. cond (not b)
    (1 + prefix_len (λ front. not (m.is_finished front)) (map (λ (front : List Seen). packet ∷ front) (fronts packets))) 0
    ≡ cond b 0 (suc (end_of packets (after packet m)))) [
      | true ↦ refl
      | false ↦
          let same = prefix_len-map (λ front. not (m.is_finished front)) (λ (front : List Seen). packet ∷ front) (fronts packets)
          in rw same (omega arith)
    ]

-- ---- the lines

-- whether a run ends at the first packet
is_first : (b : Bool) (n : ℕ) → (cond b 0 (suc n) == 0) ≡ b
is_first true n = refl
is_first false n = ne_eqb (suc n) 0 (λ e. absurd (omega (arith, e)))

-- whether it ends at a later one
is_later : (b : Bool) (n k : ℕ) → (cond b 0 (suc n) == suc k) ≡ (not b && (n == k))
is_later true n k = ne_eqb 0 (suc k) (λ e. absurd (omega (arith, e)))
is_later false n k = elim (cases_eq n k) [
  | inl same ↦ eq-eqb (suc n) (suc k) (omega (arith, same)) ∙ sym (eq-eqb n k same)
  | inr other ↦ ne_eqb (suc n) (suc k) (λ e. other (omega (arith, e))) ∙ sym (ne_eqb n k other)
]

-- the lines at the first packet are those of the monitors that it finishes
lines_at-first : (monitors : List Meaning) (packet : Seen) (packets : List Seen)
    → lines_at monitors (packet ∷ packets) 0 ≡ retired_lines packet monitors
lines_at-first monitors packet packets =
    ap (flat_map (λ (m : Meaning). m.line (packet ∷ [])))
    (filter_same (λ m. end_of (packet ∷ packets) m == 0) (retires packet) monitors
    (λ m. ap (λ n. n == 0) (end_of-cons packet packets m) ∙ is_first (retires packet m) (end_of packets (after packet m))))

-- the lines at a later packet are those of what is left after the first
lines_at-later : (monitors : List Meaning) (packet : Seen) (packets : List Seen) (k : ℕ)
    → lines_at monitors (packet ∷ packets) (k + 1) ≡ lines_at (remaining packet monitors) packets k
lines_at-later monitors packet packets k =
    let later : k + 1 + 1 ≡ suc (k + 1) = omega arith in
    let place : k + 1 ≡ suc k = omega arith in
    let stay : Meaning → Bool = λ m. not (retires packet m) in
    let there : Meaning → Bool = λ m. end_of packets m == k in
    rw (later, place)
    (ap (flat_map (λ (m : Meaning). m.line (packet ∷ take (suc k) packets)))
    (filter_same (λ m. end_of (packet ∷ packets) m == suc k) (λ m. stay m && there (after packet m)) monitors
    (λ m. ap (λ n. n == suc k) (end_of-cons packet packets m) ∙ is_later (retires packet m) (end_of packets (after packet m)) k)
    ∙ sym (filter-filter stay (λ m. there (after packet m)) monitors))
    ∙ sym (ap (flat_map (λ (m : Meaning). m.line (take (suc k) packets))) (filter-map there (after packet) (filter stay monitors))
    ∙ flat_map-map (λ (m : Meaning). m.line (take (suc k) packets)) (after packet)
    (filter (λ m. there (after packet m)) (filter stay monitors))))

-- a packet more in front: the lines of those that it finishes, and then those of what is left
pub lines_of-cons : (monitors : List Meaning) (packet : Seen) (packets : List Seen)
    → lines_of monitors (packet ∷ packets)
    ≡ retired_lines packet monitors ++ lines_of (remaining packet monitors) packets
unfolding lines_of
lines_of-cons monitors packet packets =
    let count : suc (length packets) + 1 ≡ suc (length packets + 1) = omega arith in
    let at : ℕ → List ℕ = lines_at monitors (packet ∷ packets) in
    ap (λ (n : ℕ). flat_map at (range_with_len 0 n)) count
    ∙ ap (λ (front : List ℕ). front ++ flat_map at (range_with_len 1 (length packets + 1)))
    (lines_at-first monitors packet packets)
    ∙ ap (λ (rest : List ℕ). retired_lines packet monitors ++ rest)
    (flat_map_shift at 0 (length packets + 1)
    ∙ ap (λ (f : ℕ → List ℕ). flat_map f (range_with_len 0 (length packets + 1)))
    (λ i k. lines_at-later monitors packet packets k i))

-- no packet: the lines of all
pub lines_of-nil : (monitors : List Meaning) → lines_of monitors [] ≡ last_lines monitors
unfolding lines_of
lines_of-nil monitors =
    append-nil (flat_map (λ (m : Meaning). m.line []) (filter (λ m. true) monitors))
    ∙ ap (flat_map (λ (m : Meaning). m.line [])) (filter_true monitors)

-- no monitor: no lines
pub lines_of-none : (packets : List Seen) → lines_of [] packets ≡ []
lines_of-none [] = lines_of-nil []
lines_of-none (packet ∷ packets) = lines_of-cons [] packet packets ∙ lines_of-none packets
