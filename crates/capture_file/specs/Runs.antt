-- Lists in the order of a number of each item. (This project's own.)
use Rattle.std.specs.Prelude.{◌≡◌, ℕ, suc, ◌<◌, ◌≤◌, List, [], ◌∷◌, ◌++◌, ◌==◌, if◌then◌else◌}
use Rattle.std.specs.List.{AllByRecursion}

-- no item's number is below this one, nor below that of the item before it
abbrev pub IsRisingFrom : {T : Type 0} → (T → ℕ) → ℕ → List T → Type 0
IsRisingFrom at least [] = Unit {0}
IsRisingFrom at least (r ∷ others) = (least ≤ at r) × IsRisingFrom at (at r) others

-- how many items in front have this number
abbrev pub run_len : {T : Type 0} → (T → ℕ) → ℕ → List T → ℕ
run_len at number [] = 0
run_len at number (r ∷ others) = if at r == number then suc (run_len at number others) else 0

-- the items of a list from a number on, in order; before them stand those below it
pub record IsFromOn {T : Type 0} (at : T → ℕ) (number : ℕ) (all rest : List T) : Type 0 where
  pub before : List T
  pub parts : all ≡ before ++ rest
  pub below : AllByRecursion (λ x. at x < number) before
  pub rising : IsRisingFrom at number rest
