-- The rows of a packet by frame, in pieces.
use Rattle.std.proofs.Common.{◌≡◌, ℕ, zero, suc, ◌+◌, ◌-◌, ◌*◌, ◌<◌, ◌≤◌, Bool, true, cond}
use Rattle.std.proofs.Common.{List, [], ◌∷◌, ◌++◌, Option, Some, None, inl, inr, zero-add}
use Rattle.std.proofs.Common.{length, get_or, take, drop, refl, sym, ap, ◌∙◌, arith}
use Rattle.std.specs.Prelude.{All, count_by, eqb, not}
use Rattle.std.specs.List.{range_with_len}
use Rattle.std.proofs.lemmas.Bool.{cases_Bool, eqb-true, false≢true, le-ltb, lt-ltb, or_right}
use Rattle.std.proofs.lemmas.List.Sums.{sum_by-cons}
use Rattle.list_laws.proofs.Items.{count_by-append}
use Rattle.list_laws.proofs.Ranges.{range_parts}
use Rattle.std.proofs.lemmas.List.{drop-append-le, drop-drop, length-drop}
use Rattle.std.proofs.lemmas.List.{take-append-le}
use Rattle.std.proofs.Math.Seq.{take-length}
use Rattle.map_entry.specs.declared.cell.Cell.{Cell}
use Rattle.map_entry.specs.declared.entry.Entry.{Entry}
use Rattle.map_entry.specs.Entry.{IsPiece, ruling}
use Rattle.map_entry.specs.Tick.{frame_key}
use Rattle.packet_worker.specs.Rows.{RowUpto, RowsFace, begins_piece, pieces_of, row_in, same_place}

-- the row at a frame before which the first piece ends, and at one before which it does not
pub row_here : (p : RowUpto) (ps : List RowUpto) (f : ℕ) → f < p.upto → row_in (p ∷ ps) f ≡ p.row
row_here p ps f lt = rw (lt-ltb f p.upto lt) refl

pub row_later : (p : RowUpto) (ps : List RowUpto) (f : ℕ) → p.upto ≤ f
    → row_in (p ∷ ps) f ≡ row_in ps f
row_later p ps f le = rw (le-ltb f p.upto le) refl

-- pieces that all end before a frame leave it to those after them
pub row_past : (ps more : List RowUpto) (f : ℕ) → All (λ p. p.upto ≤ f) ps
    → row_in (ps ++ more) f ≡ row_in more f
row_past [] more f past = refl
row_past (p ∷ ps) more f past =
    row_later p (ps ++ more) f (past 0 p (omega arith))
    ∙ row_past ps more f (λ i d lt. past (suc i) d (omega arith))

-- ---- pieces as they are kept

pub pieces_long : (n : ℕ) (uptos : List ℕ) (cells : List Cell)
    → length (pieces_of n uptos cells) ≡ length uptos
pieces_long n [] cells = refl
pieces_long n (u ∷ us) cells = ap suc (pieces_long n us (drop n cells))

-- the first that goes further has the row
pub kept_row : (n : ℕ) (uptos : List ℕ) (cells : List Cell) (at frame f : ℕ)
    → at < length uptos → All (λ u. u ≤ frame) (take at uptos) → frame ≤ f
    → f < get_or uptos at 0 → row_in (pieces_of n uptos cells) f ≡ take n (drop (at * n) cells)
kept_row n [] cells at frame f lt past le goes = absurd (omega arith)
kept_row n (u ∷ us) cells zero frame f lt past le goes =
    row_here (record { row = take n cells; upto = u }) (pieces_of n us (drop n cells)) f goes
    ∙ ap (λ (m : ℕ). take n (drop m cells)) (let e : 0 ≡ 0 * n = omega arith in e)
kept_row n (u ∷ us) cells (suc at) frame f lt past le goes =
    row_later (record { row = take n cells; upto = u }) (pieces_of n us (drop n cells)) f
    (let p = past 0 u (omega arith) in omega (arith, p, le))
    ∙ kept_row n us (drop n cells) at frame f (omega arith)
    (λ i d l. past (suc i) d (omega (arith, l))) le goes
    ∙ ap (λ (l : List Cell). take n l)
    (drop-drop (at * n) n cells
    ∙ ap (λ (m : ℕ). drop m cells) (let e : n + at * n ≡ suc at * n = omega arith in e))

-- where none goes further there is none
pub kept_none : (n : ℕ) (uptos : List ℕ) (cells : List Cell) (frame f : ℕ)
    → All (λ u. u ≤ frame) uptos → frame ≤ f → row_in (pieces_of n uptos cells) f ≡ []
kept_none n [] cells frame f past le = refl
kept_none n (u ∷ us) cells frame f past le =
    row_later (record { row = take n cells; upto = u }) (pieces_of n us (drop n cells)) f
    (let p = past 0 u (omega arith) in omega (arith, p, le))
    ∙ kept_none n us (drop n cells) frame f (λ i d l. past (suc i) d (omega (arith, l))) le

take_all : (row : List Cell) (n : ℕ) → length row ≡ n → take n row ≡ row
take_all row n is = ap (λ (m : ℕ). take m row) (sym is) ∙ take-length row

pub pieces_more : (n : ℕ) (uptos : List ℕ) (cells row : List Cell) (upto : ℕ)
    → length cells ≡ length uptos * n → length row ≡ n
    → pieces_of n (uptos ++ upto ∷ []) (cells ++ row)
    ≡ pieces_of n uptos cells ++ record { row = row; upto = upto } ∷ []
pieces_more n [] [] row upto long is = λ k. record { row = take_all row n is k; upto = upto } ∷ []
pieces_more n [] (c ∷ cs) row upto long is = absurd (omega (arith, long))
pieces_more n (u ∷ us) cells row upto long is =
    let all : length cells ≡ n + length us * n = omega (arith, long) in
    let enough : n ≤ length cells = omega (arith, all) in
    (λ k. record { row = take-append-le n cells row enough k; upto = u }
    ∷ pieces_of n (us ++ upto ∷ []) (drop-append-le n cells row enough k))
    ∙ ap (λ (l : List RowUpto). record { row = take n cells; upto = u } ∷ l)
    (pieces_more n us (drop n cells) row upto
    (let d = length-drop n cells in omega (arith, d, all)) is)

-- ---- as contracts see them

module _ (n : ℕ) (uptos : List ℕ) (cells : List Cell) (face : RowsFace)
    (is : record { channels = n; pieces = pieces_of n uptos cells } ≡ face)
  where
    pub kept_count : length face.pieces ≡ length uptos
    kept_count = sym (ap (λ (z : RowsFace). length z.pieces) is) ∙ pieces_long n uptos cells

    pub kept_more : (uptos_now : List ℕ) (cells_now row : List Cell) (upto : ℕ)
        → uptos_now ≡ uptos ++ upto ∷ [] → cells_now ≡ cells ++ row
        → length cells ≡ length uptos * n → length row ≡ n
        → record { channels = n; pieces = pieces_of n uptos_now cells_now }
        ≡ record face { pieces = face.pieces ++ record { row = row; upto = upto } ∷ [] }
    kept_more uptos_now cells_now row upto us cs long same =
        (λ k. record { channels = n; pieces = pieces_of n (us k) (cs k) })
        ∙ (ap (λ (ps : List RowUpto). record { channels = n; pieces = ps })
        (pieces_more n uptos cells row upto long same)
        ∙ ap (λ (z : RowsFace). record z {
          pieces = z.pieces ++ record { row = row; upto = upto } ∷ [];
        }) is)

-- ---- how many pieces a packet has

same_places : (a b : Option ℕ) → same_place a b ≡ true → a ≡ b
same_places None None h = refl
same_places None (Some j) h = absurd (false≢true h)
same_places (Some i) None h = absurd (false≢true h)
same_places (Some i) (Some j) h = ap Some (eqb-true i j h)

-- where a piece ends another one begins
pub begins_after : (entries : List Entry) (output tick frame frames upto : ℕ)
    → IsPiece entries output tick frame frames upto → upto < frames
    → begins_piece entries output tick upto ≡ true
begins_after entries output tick frame frames upto is lt =
    let goes = is.goes_on in
    or_right (eqb upto 0) (not (same_place (ruling entries output (frame_key tick (upto - 1)))
    (ruling entries output (frame_key tick upto))))
    (elim (cases_Bool (same_place (ruling entries output (frame_key tick (upto - 1)))
    (ruling entries output (frame_key tick upto)))) [
      | inl same ↦
          absurd (is.other lt
          (sym (same_places (ruling entries output (frame_key tick (upto - 1)))
          (ruling entries output (frame_key tick upto)) same)
          ∙ is.same (upto - 1) (omega (arith, goes)) (omega (arith, goes))))
      | inr apart ↦ ap not apart
    ])

only_one : (p : ℕ → Bool) (x : ℕ) → p x ≡ true → count_by p (x ∷ []) ≡ 1
only_one p x h =
    sum_by-cons (λ (y : ℕ). cond (p y) 1 0) x [] ∙ ap (λ (b : Bool). cond b 1 0 + 0) h

-- one more up to where a piece that begins at a frame ends
pub count_more : (p : ℕ → Bool) (frame upto : ℕ) → frame < upto → p frame ≡ true
    → count_by p (range_with_len 0 frame) + 1 ≤ count_by p (range_with_len 0 upto)
count_more p frame upto lt here =
    let rest : ℕ = upto - (frame + 1) in
    let all = ap (λ (n : ℕ). count_by p (range_with_len 0 n))
    (let e : upto ≡ frame + 1 + rest = omega (arith, lt) in e)
    ∙ (ap (count_by p) (range_parts 0 (frame + 1) rest)
    ∙ count_by-append p (range_with_len 0 (frame + 1)) (range_with_len (0 + (frame + 1)) rest)) in
    let front = ap (count_by p) (range_parts 0 frame 1)
    ∙ count_by-append p (range_with_len 0 frame) (range_with_len (0 + frame) 1) in
    let one = only_one p (0 + frame) (ap p (zero-add frame) ∙ here) in
    omega (arith, all, front, one)
