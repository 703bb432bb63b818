-- The packet whose samples a frame holds, as the function finds it and in words.
use Rattle.std.proofs.Common.{◌≡◌, ℕ, Bool, true, false, cond, List, [], ◌∷◌, ◌++◌, Option, Some}
use Rattle.std.proofs.Common.{None, refl, sym, ap, ◌∙◌}
use Rattle.std.specs.Prelude.{◌||◌, option_and_then, All}
use Rattle.std.specs.List.{find}
use Rattle.std.proofs.lemmas.List.Elements.{All-nil, All-cons, All-head, All-tail}
use Rattle.block_builder.specs.declared.intake.Intake.{Intake}
use Rattle.block_builder.specs.Blocks.{Piece, IsHolder, closes, covers, decides, holder}

same_piece : (p q : Piece) → Some p ≡ Some q → p ≡ q
same_piece p q e = cc

no_piece : (p : Piece) → None ≡ Some p → ⊥
no_piece p e = cc

abbrev pub keep : ℕ → Piece → Option Piece
keep place p = cond (covers place p) (Some p) None

pub kept : (place : ℕ) (q : Piece) (b : Bool) → covers place q ≡ b
    → keep place q ≡ cond b (Some q) None
kept place q b e = ap (λ (c : Bool). cond c (Some q) None) e

in_front : (n : Intake) (tick place : ℕ) (p q : Piece) (qs : List Piece) (c l : Bool)
    → covers place q ≡ c → closes n tick q ≡ l
    → (holder n qs tick place ≡ Some p → IsHolder n qs tick place p)
    → option_and_then (keep place) (cond (c || l) (Some q) (find (decides n tick place) qs))
    ≡ Some p → IsHolder n (q ∷ qs) tick place p
in_front n tick place p q qs true l is closed rest h =
    let same = same_piece q p (sym (kept place q true is) ∙ h) in
    record {
      before = [];
      after = qs;
      stands = ap (λ (r : Piece). r ∷ qs) same;
      covered = ap (covers place) (sym same) ∙ is;
      first = All-nil (λ r. covers place r ≡ false);
      opened = All-nil (λ r. closes n tick r ≡ false);
    }
in_front n tick place p q qs false true is closed rest h =
    absurd (no_piece p (sym (kept place q false is) ∙ h))
in_front n tick place p q qs false false is closed rest h =
    let behind = rest h in
    record {
      before = q ∷ behind.before;
      after = behind.after;
      stands = ap (λ (rs : List Piece). q ∷ rs) behind.stands;
      covered = behind.covered;
      first = All-cons (λ r. covers place r ≡ false) q behind.before is behind.first;
      opened = All-cons (λ r. closes n tick r ≡ false) q behind.before closed behind.opened;
    }

-- What the function finds is the packet in words.
pub holder_is : (n : Intake) (tick place : ℕ) (p : Piece) (pieces : List Piece)
    → holder n pieces tick place ≡ Some p → IsHolder n pieces tick place p
holder_is n tick place p [] h = absurd (no_piece p h)
holder_is n tick place p (q ∷ qs) h =
    in_front n tick place p q qs (covers place q) (closes n tick q) refl refl
    (holder_is n tick place p qs) h

pub found_here : (place : ℕ) (p : Piece) (c l : Bool) (rest : Option Piece) → keep place p ≡ Some p
    → c ≡ true → option_and_then (keep place) (cond (c || l) (Some p) rest) ≡ Some p
found_here place p true l rest k e = k
found_here place p false l rest k e = absurd cc

pub goes_on : (place : ℕ) (q : Piece) (c l : Bool) (rest : Option Piece) → c ≡ false → l ≡ false
    → option_and_then (keep place) (cond (c || l) (Some q) rest) ≡ option_and_then (keep place) rest
goes_on place q true l rest e f = absurd cc
goes_on place q false true rest e f = absurd cc
goes_on place q false false rest e f = refl

found_behind : (n : Intake) (tick place : ℕ) (p : Piece) (before after : List Piece)
    → covers place p ≡ true → All (λ q. covers place q ≡ false) before
    → All (λ q. closes n tick q ≡ false) before
    → holder n (before ++ p ∷ after) tick place ≡ Some p
found_behind n tick place p [] after is first opened =
    found_here place p (covers place p) (closes n tick p) (find (decides n tick place) after)
    (kept place p true is) is
found_behind n tick place p (q ∷ qs) after is first opened =
    goes_on place q (covers place q) (closes n tick q)
    (find (decides n tick place) (qs ++ p ∷ after))
    (All-head (λ r. covers place r ≡ false) q qs first)
    (All-head (λ r. closes n tick r ≡ false) q qs opened)
    ∙ found_behind n tick place p qs after is (All-tail (λ r. covers place r ≡ false) q qs first)
    (All-tail (λ r. closes n tick r ≡ false) q qs opened)

-- The packet in words is found.
pub is_holder : (n : Intake) (tick place : ℕ) (p : Piece) (pieces : List Piece)
    → IsHolder n pieces tick place p → holder n pieces tick place ≡ Some p
is_holder n tick place p pieces h =
    ap (λ (ps : List Piece). holder n ps tick place) h.stands
    ∙ found_behind n tick place p h.before h.after h.covered h.first h.opened

-- Where none is found, there is none.
pub no_holder : (n : Intake) (tick place : ℕ) (p : Piece) (pieces : List Piece)
    → holder n pieces tick place ≡ None → IsHolder n pieces tick place p → ⊥
no_holder n tick place p pieces none h = no_piece p (sym none ∙ is_holder n tick place p pieces h)
