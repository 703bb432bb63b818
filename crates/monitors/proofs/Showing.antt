-- One monitor of a list sees a packet, and the rest of the list later.
use Rattle.std.proofs.Common.{◌≡◌, ℕ, zero, suc, ◌+◌, ◌<◌, Bool, true, false, List, [], ◌∷◌, ◌++◌, length, map, take, drop, get_or, set}
use Rattle.std.proofs.Common.{refl, sym, ap, subst, ◌∙◌, arith, append_assoc}
use Rattle.std.specs.List.{remove}
use Rattle.std.proofs.lemmas.List.{get_or-set_same}
use Rattle.monitors.specs.declared.packets.Seen.{Seen}
use Rattle.monitors.proofs.Runs.{same_meaning}
use Rattle.monitors.specs.Lines.{Meaning, after, retires, retired_lines, remaining}

-- what monitors are once those from a place on have seen a packet
abbrev pub shown_from : {B : Type 0} → (B → Meaning) → Seen → ℕ → List B → List Meaning
shown_from m seen at items = take at (map m items) ++ remaining seen (drop at (map m items))

-- the lines of those of them that it finishes
abbrev pub lines_from : {B : Type 0} → (B → Meaning) → Seen → ℕ → List B → List ℕ
lines_from m seen at items = retired_lines seen (drop at (map m items))

-- one that is finished is removed
pub shown-finished : {B : Type 0} (m : B → Meaning) (seen : Seen) (items : List B) (at : ℕ) (new d : B)
    → at < length items → retires seen (m (get_or items at d)) ≡ true
    → shown_from m seen at (remove (set items at new) at) ≡ shown_from m seen at items
shown-finished m seen [] at new d lt is = absurd (omega (arith, lt))
shown-finished m seen (x ∷ xs) zero new d lt is = rw is refl
shown-finished m seen (x ∷ xs) (suc at) new d lt is =
    (ap (λ (ms : List Meaning). m x ∷ ms) (shown-finished m seen xs at new d (omega (arith, lt)) is))

-- and its line was written
pub lines-finished : {B : Type 0} (m : B → Meaning) (seen : Seen) (items : List B) (at : ℕ) (new d : B)
    → at < length items → retires seen (m (get_or items at d)) ≡ true
    → lines_from m seen at items
    ≡ (m (get_or items at d)).line (seen ∷ []) ++ lines_from m seen at (remove (set items at new) at)
lines-finished m seen [] at new d lt is = absurd (omega (arith, lt))
lines-finished m seen (x ∷ xs) zero new d lt is = rw is refl
lines-finished m seen (x ∷ xs) (suc at) new d lt is =
    (lines-finished m seen xs at new d (omega (arith, lt)) is)

-- another one stays
pub shown-stays : {B : Type 0} (m : B → Meaning) (seen : Seen) (items : List B) (at : ℕ) (new d : B)
    → at < length items → m new ≡ after seen (m (get_or items at d)) → retires seen (m (get_or items at d)) ≡ false
    → shown_from m seen (at + 1) (set items at new) ≡ shown_from m seen at items
shown-stays m seen [] at new d lt saw is = absurd (omega (arith, lt))
shown-stays m seen (x ∷ xs) zero new d lt saw is = rw is (ap (λ (n : Meaning). n ∷ remaining seen (map m xs)) saw)
shown-stays m seen (x ∷ xs) (suc at) new d lt saw is =
    let next : suc at + 1 ≡ suc (at + 1) = omega arith in
    rw next (ap (λ (ms : List Meaning). m x ∷ ms) (shown-stays m seen xs at new d (omega (arith, lt)) saw is))

-- and writes nothing
pub lines-stays : {B : Type 0} (m : B → Meaning) (seen : Seen) (items : List B) (at : ℕ) (new d : B)
    → at < length items → retires seen (m (get_or items at d)) ≡ false
    → lines_from m seen at items ≡ lines_from m seen (at + 1) (set items at new)
lines-stays m seen [] at new d lt is = absurd (omega (arith, lt))
lines-stays m seen (x ∷ xs) zero new d lt is = rw is refl
lines-stays m seen (x ∷ xs) (suc at) new d lt is =
    let next : suc at + 1 ≡ suc (at + 1) = omega arith in
    rw next (lines-stays m seen xs at new d (omega (arith, lt)) is)

-- ---- as the code does it

-- the monitor of a place saw a packet, and was looked at again
pub record IsShown {B : Type 0} (items : List B) (m : B → Meaning) (seen : Seen) (at : ℕ) (old new looked : B)
    : Type 0 where
  pub there : at < length items
  pub old_is : old ≡ get_or items at old
  pub line : (more : List Seen) → (m new).line more ≡ (m old).line (seen ∷ more)
  pub finished : (more : List Seen) → (m new).is_finished more ≡ (m old).is_finished (seen ∷ more)
  pub looked_is : looked ≡ get_or (set items at new) at looked

-- what stands at a place where an item was put is that item
pub put_is : {B : Type 0} (items : List B) (at : ℕ) (new looked : B) → at < length items
    → looked ≡ get_or (set items at new) at looked → looked ≡ new
put_is items at new looked there is = is ∙ get_or-set_same items at new looked there

-- whether it is finished is told by what it was
answer_is : {B : Type 0} (items : List B) (m : B → Meaning) (seen : Seen) (at : ℕ) (old new looked : B) (answer : Bool)
    → IsShown items m seen at old new looked → answer ≡ (m looked).is_finished []
    → retires seen (m (get_or items at old)) ≡ answer
answer_is {B} items m seen at old new looked answer s is =
    ap (λ (b : B). retires seen (m b)) (sym s.old_is)
    ∙ sym (s.finished [])
    ∙ ap (λ (b : B). (m b).is_finished []) (sym (put_is items at new looked s.there s.looked_is))
    ∙ sym is

-- the list, where it is finished and removed
pub finished_list : {B : Type 0} (items kept : List B) (m : B → Meaning) (seen : Seen) (at : ℕ) (old new looked : B) (answer : Bool)
    → IsShown items m seen at old new looked → answer ≡ (m looked).is_finished [] → answer ≡ true
    → kept ≡ remove (set items at new) at
    → shown_from m seen at kept ≡ shown_from m seen at items
finished_list items kept m seen at old new looked answer s is done kept_is =
    rw kept_is (shown-finished m seen items at new old s.there (answer_is items m seen at old new looked answer s is ∙ done))

-- what is written, where it is finished
pub finished_lines : {B : Type 0} (items kept : List B) (m : B → Meaning) (seen : Seen) (at : ℕ) (old new looked gone : B)
    (answer : Bool) (out written : List ℕ)
    → IsShown items m seen at old new looked → answer ≡ (m looked).is_finished [] → answer ≡ true
    → kept ≡ remove (set items at new) at → gone ≡ get_or (set items at new) at gone
    → written ≡ out ++ (m gone).line []
    → written ++ lines_from m seen at kept ≡ out ++ lines_from m seen at items
finished_lines {B} items kept m seen at old new looked gone answer out written s is done kept_is gone_is written_is =
    let line : (m gone).line [] ≡ (m (get_or items at old)).line (seen ∷ []) =
    ap (λ (b : B). (m b).line []) (put_is items at new gone s.there gone_is)
    ∙ s.line [] ∙ ap (λ (b : B). (m b).line (seen ∷ [])) s.old_is
    in
    rw (written_is, kept_is)
    (append_assoc out ((m gone).line []) (lines_from m seen at (remove (set items at new) at))
    ∙ ap (λ (front : List ℕ). out ++ (front ++ lines_from m seen at (remove (set items at new) at))) line
    ∙ ap (λ (rest : List ℕ). out ++ rest)
    (sym (lines-finished m seen items at new old s.there
    (answer_is items m seen at old new looked answer s is ∙ done))))

-- the list, where it is not
pub staying_list : {B : Type 0} (items : List B) (m : B → Meaning) (seen : Seen) (at : ℕ) (old new looked : B) (answer : Bool)
    → IsShown items m seen at old new looked → answer ≡ (m looked).is_finished [] → answer ≡ false
    → shown_from m seen (at + 1) (set items at new) ≡ shown_from m seen at items
staying_list {B} items m seen at old new looked answer s is goes_on =
    let saw : m new ≡ after seen (m (get_or items at old)) =
    same_meaning (m new) (after seen (m old)) s.line s.finished ∙ ap (λ (b : B). after seen (m b)) s.old_is
    in shown-stays m seen items at new old s.there saw (answer_is items m seen at old new looked answer s is ∙ goes_on)

-- what is written, where it is not
pub staying_lines : {B : Type 0} (items : List B) (m : B → Meaning) (seen : Seen) (at : ℕ) (old new looked : B)
    (answer : Bool) (out : List ℕ)
    → IsShown items m seen at old new looked → answer ≡ (m looked).is_finished [] → answer ≡ false
    → out ++ lines_from m seen (at + 1) (set items at new) ≡ out ++ lines_from m seen at items
staying_lines items m seen at old new looked answer out s is goes_on =
    ap (λ (rest : List ℕ). out ++ rest)
    (sym (lines-stays m seen items at new old s.there (answer_is items m seen at old new looked answer s is ∙ goes_on)))
