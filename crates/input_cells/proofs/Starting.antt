-- The passes of a table that was just started.
use Rattle.std.proofs.Common.{◌≡◌, ℕ, zero, suc, ◌+◌, ◌<◌, List, [], ◌∷◌, length, map, get_or, replicate, refl, sym}
use Rattle.std.proofs.Common.{ap, ◌∙◌, subst, arith, false}
use Rattle.std.proofs.lemmas.List.{length-map}
use Rattle.std.specs.Prelude.{Bool, Option, Some, is_none}
use Rattle.std.specs.List.{All, AllZip}
use Rattle.io_caps.specs.declared.device.DeviceParts.{DeviceParts}
use Rattle.input_rule.specs.declared.view.Shape.{Shape}
use Rattle.input_rule.specs.Words.{HasTick}
use Rattle.input_cells.specs.Faces.{AreFeeds, AreNumbered, HasShape, InputFace, IsKept, SeatFace}
use Rattle.input_cells.specs.Faces.{face_of}
use Rattle.input_cells.specs.Faces.{unfed, unread}
use Rattle.input_cells.specs.PassesGrow.{HasItsTicks}
use Rattle.input_cells.specs.Shapes.{IsTableOf, shape_of}
use Rattle.input_cells.proofs.Agreeing.{range_at, range_long, shape_in}

pub as_inputs : (d : DeviceParts) (from ticks : ℕ) (table : List InputFace)
    → IsTableOf d from ticks table → length table ≡ length d.inputs + 1
as_inputs d from ticks table of_it = sym (length-map table (λ (t : InputFace). t.shape))
    ∙ (ap (λ (l : List Shape). length l) of_it
    ∙ range_long (shape_of d from ticks) 0 (length d.inputs + 1))

pub numbered_table : (d : DeviceParts) (from ticks : ℕ) (table : List InputFace)
    → IsTableOf d from ticks table → AreNumbered table
numbered_table d from ticks table of_it k e lt =
    let n = as_inputs d from ticks table of_it in
    ap (λ (z : Shape). z.input)
    (shape_in table k e
    ∙ (ap (λ (l : List Shape). get_or l k e.shape) of_it
    ∙ range_at (shape_of d from ticks) 0 (length d.inputs + 1) k e.shape (omega arith)))
    ∙ omega arith

shape_held : (P : Shape → Type 0) (table : List InputFace) (k : ℕ) (d : InputFace)
    → k < length table → P (get_or table k d).shape → HasShape table k P
shape_held P [] k d lt h = absurd (omega arith)
shape_held P (t ∷ ts) zero d lt h = h
shape_held P (t ∷ ts) (suc k) d lt h = shape_held P ts k d (omega arith) h

-- a table of a device has each of its ticks at each input
pub has_its_ticks : HasItsTicks
has_its_ticks d from ticks [] of_it tick low high input there = absurd (omega (arith, there))
has_its_ticks d from ticks (t ∷ ts) of_it tick low high input there =
    let n = as_inputs d from ticks (t ∷ ts) of_it in
    shape_held (λ s. HasTick s tick) (t ∷ ts) input t (omega (arith, there))
    (subst (λ (s : Shape). HasTick s tick)
    (sym (shape_in (t ∷ ts) input t
    ∙ (ap (λ (l : List Shape). get_or l input t.shape) of_it
    ∙ range_at (shape_of d from ticks) 0 (length d.inputs + 1) input t.shape (omega (arith, n, there)))))
    (low, high))

pub faces_unread : (table : List InputFace) → map face_of (map unread table) ≡ table
faces_unread [] = refl
faces_unread (t ∷ ts) = λ k. t ∷ faces_unread ts k

all_kept : (table : List InputFace)
    → AllZip IsKept table (map (λ (t : InputFace). Some (unfed t)) table)
all_kept [] = tt
all_kept (t ∷ ts) = (refl, all_kept ts)

none_given : (table : List InputFace)
    → map is_none (map (λ (t : InputFace). Some (unfed t)) table) ≡ replicate (length table) false
none_given [] = refl
none_given (t ∷ ts) = λ k. false ∷ none_given ts k

module _ (table : List InputFace) (feeders : List (Option SeatFace))
    (readers : List (List SeatFace)) (spare : List SeatFace) (most : ℕ)
    (f : feeders ≡ map (λ (t : InputFace). Some (unfed t)) table) (s : spare ≡ map unread table)
  where
    pub table_is : map face_of spare ≡ table
    table_is = ap (λ (l : List SeatFace). map face_of l) s ∙ faces_unread table

    pub are_feeds : AreNumbered table → length readers ≡ most
        → All (λ r. r ≡ map unread table) readers
        → AreFeeds (map face_of spare) feeders readers spare most
    are_feeds numbered many r =
        subst (λ (t : List InputFace). AreFeeds t feeders readers spare most)
        (sym table_is) (record {
          spare_is = s;
          feeders_are = subst (AllZip IsKept table) (sym f) (all_kept table);
          readers_are = r;
          few = omega arith;
          numbered = numbered;
        })

-- the table that they are of
pub spare_of : (table : List InputFace) (spare : List SeatFace) → spare ≡ map unread table
    → map face_of spare ≡ table
spare_of table spare is =
    ap (λ (l : List SeatFace). map face_of l) is ∙ faces_unread table

-- no feeder's pass was given yet
pub none_yet : (table : List InputFace) (feeders : List (Option SeatFace))
    → feeders ≡ map (λ (t : InputFace). Some (unfed t)) table → (n : ℕ) → length table ≡ n
    → map is_none feeders ≡ replicate n false
none_yet table feeders f n long =
    ap (λ (l : List (Option SeatFace)). map is_none l) f
    ∙ (none_given table ∙ ap (λ (m : ℕ). replicate {A = Bool} m false) long)
