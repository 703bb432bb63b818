-- A whole run: the blocks so far are those of the arrivals so far.
use Rattle.std.proofs.Common.{◌≡◌, ℕ, ◌+◌, ◌-◌, ◌≤◌, List, [], ◌∷◌, ◌++◌, Option, Some, None, arith}
use Rattle.std.proofs.Common.{ℤ, refl, sym, ap, ◌∙◌, zero-add}
use Rattle.std.proofs.lemmas.List.FromFn.{map-range_with_len_more}
use Rattle.list_laws.proofs.Ranges.{map_same}
use Rattle.block_builder.specs.declared.intake.Intake.{Intake}
use Rattle.block_builder.specs.declared.arrival.Arrival.{Arrival}
use Rattle.block_builder.specs.declared.arrival.Arrival.TheVariants.{End}
use Rattle.io_caps.specs.declared.port.Input.{Input}
use Rattle.block_builder.specs.Blocks.{intake_for, intake_of, block_at, block_of, closed_by}
use Rattle.block_builder.specs.Blocks.{closed_of, pieces_of}
use Rattle.block_builder.proofs.BlockLaws.{block_stays, block_mark, block_of_is, end_closes}
use Rattle.block_builder.specs.Building.{blocks_upto, session_blocks}
use Rattle.std.specs.Option.{option_map}
use Rattle.std.specs.Prelude.{slice_get}
use Rattle.io_caps.specs.declared.device.DeviceParts.{DeviceParts}
use Rattle.block_builder.proofs.Builders.{begin_closed}

-- a tick more
pub upto_more : (n : Intake) (arrivals : List Arrival) (given : ℕ) (made : List (Option (List ℤ)))
    (tick : ℕ) (block : Option (List ℤ)) → tick ≡ n.base + given → block ≡ block_at n arrivals tick
    → made ≡ blocks_upto n arrivals given → made ++ block ∷ [] ≡ blocks_upto n arrivals (given + 1)
upto_more n arrivals given made tick block at is so_far =
    ap (λ (xs : List (Option (List ℤ))). xs ++ block ∷ []) so_far
    ∙ ap (λ (b : Option (List ℤ)). blocks_upto n arrivals given ++ b ∷ [])
    (is ∙ ap (block_at n arrivals) at)
    ∙ sym (map-range_with_len_more (λ k. block_at n arrivals (n.base + k)) 0 given given
    (zero-add given))

-- an arrival more leaves what was handed out
pub upto_stays : (n : Intake) (arrivals more : List Arrival) (given : ℕ)
    → given ≤ closed_by n (pieces_of n arrivals)
    → blocks_upto n (arrivals ++ more) given ≡ blocks_upto n arrivals given
upto_stays n arrivals more given le =
    map_same (λ k. block_at n (arrivals ++ more) (n.base + k))
    (λ k. block_at n arrivals (n.base + k)) 0 given
    (λ k _ lt. let e : n.base + k - n.base ≡ k = omega arith in
    block_stays n arrivals more (n.base + k) (omega (arith, e, lt, le)))

-- the end leaves all
pub upto_end : (n : Intake) (arrivals : List Arrival) (given : ℕ)
    → blocks_upto n (arrivals ++ End ∷ []) given ≡ blocks_upto n arrivals given
upto_end n arrivals given =
    map_same (λ k. block_at n (arrivals ++ End ∷ []) (n.base + k))
    (λ k. block_at n arrivals (n.base + k)) 0 given
    (λ k _ lt. block_mark n arrivals End (n.ticks + n.hold) (n.base + k) refl)

pub begin_upto : (n : Intake) (arrivals : List Arrival) (given : ℕ) → given ≡ 0
    → [] ≡ blocks_upto n arrivals given
begin_upto n arrivals given e = ap (blocks_upto n arrivals) (sym e)

pub begin_drained : (n : Intake) (arrivals : List Arrival) (given : ℕ) → arrivals ≡ [] → given ≡ 0
    → closed_by n (pieces_of n arrivals) ≡ given
begin_drained n arrivals given none e =
    ap (λ (all : List Arrival). closed_by n (pieces_of n all)) none ∙ sym (begin_closed n) ∙ sym e

made_ticks : (i : Option Input) (d : DeviceParts) (ticks : ℕ) (n : Intake)
    → option_map (λ (j : Input). intake_for d j ticks) i ≡ Some n
    → (n.ticks ≡ ticks) × (n.base ≡ d.base)
made_ticks None d ticks n e = absurd cc
made_ticks (Some j) d ticks n e = let same : intake_for d j ticks ≡ n = cc in
    (ap (λ (k : Intake). k.ticks) (sym same), ap (λ (k : Intake). k.base) (sym same))

pub intake_ticks : (d : DeviceParts) (input ticks : ℕ) (n : Intake)
    → intake_of d input ticks ≡ Some n → (n.ticks ≡ ticks) × (n.base ≡ d.base)
intake_ticks d input ticks n e = made_ticks (slice_get d.inputs input) d ticks n e

-- for an input that is there, the blocks of a device's input are those of what rules it
pub session_is : (d : DeviceParts) (input ticks : ℕ) (n : Intake) (arrivals : List Arrival)
    → intake_of d input ticks ≡ Some n
    → blocks_upto n arrivals ticks ≡ session_blocks d input ticks arrivals
session_is d input ticks n arrivals e =
    let numbers = intake_ticks d input ticks n e in
    map_same (λ k. block_at n arrivals (n.base + k))
    (λ k. block_of d input ticks arrivals (d.base + k)) 0 ticks
    (λ k _ _. ap (λ (base : ℕ). block_at n arrivals (base + k)) numbers.1
    ∙ sym (block_of_is d input ticks n arrivals (d.base + k) e))

pub same_intake : (o : Option Intake) (n m : Intake) → o ≡ Some n → o ≡ Some m → m ≡ n
same_intake o n m e f = cc

-- after all arrivals and the end
pub run_ends : (d : DeviceParts) (input ticks : ℕ) (n : Intake) (arrivals after : List Arrival)
    (given : ℕ) (made : List (Option (List ℤ))) → intake_of d input ticks ≡ Some n
    → after ≡ arrivals ++ End ∷ [] → made ≡ blocks_upto n after given → closed_of n after ≡ given
    → made ≡ session_blocks d input ticks arrivals
run_ends d input ticks n arrivals after given made known ended is drained =
    let numbers = intake_ticks d input ticks n known in
    let all : given ≡ ticks = sym drained ∙ ap (closed_of n) ended ∙ end_closes n arrivals
    ∙ numbers.0 in
    is ∙ ap (λ (x : List Arrival). blocks_upto n x given) ended ∙ upto_end n arrivals given
    ∙ ap (blocks_upto n arrivals) all ∙ session_is d input ticks n arrivals known
