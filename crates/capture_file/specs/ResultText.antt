-- Which bytes are a result, and where its records stand. (This project's own.)
use Rattle.std.specs.Prelude.{◌≡◌, ℕ, ◌+◌, ◌<◌, List, [], ◌∷◌, ◌++◌, length, drop, All, Result, Ok}
use Rattle.std.specs.Prelude.{Err}
use Rattle.std.specs.List.{flat_map}
use Rattle.io_caps.specs.declared.device.DeviceParts.{DeviceParts}
use Rattle.io_caps.specs.declared.limits.TheConstants.{CLIENTS}
use Rattle.io_caps.specs.declared.memory.Or.{Or}
use Rattle.capture_file.specs.declared.entries.ResultItem.{ResultItem}
use Rattle.capture_file.specs.declared.entries.ResultItem.TheVariants.{Claim, Call, Reply, End}
use Rattle.capture_file.specs.declared.fault.CaptureFault.{CaptureFault}
use Rattle.capture_file.specs.declared.format.Format.{Format}
use Rattle.capture_file.specs.Formats.{result_magic}
use Rattle.capture_file.specs.Items.{end_text}
use Rattle.capture_file.specs.Result.{result_item}
use Rattle.capture_file.specs.Walk.{IfFault}

-- the number of a record's client is one
abbrev pub IsClientThere : ResultItem → Type 0
IsClientThere (Claim c) = Unit {0}
IsClientThere (Call c) = c.client < CLIENTS
IsClientThere (Reply r) = r.client < CLIENTS
IsClientThere End = Unit {0}

-- records of a result of this device before the last one: their clients are there, and their
-- numbers are in the range of their fields
pub record AreRecords (format : Format) (d : DeviceParts) (items : List ResultItem) : Type 0 where
  pub there : All IsClientThere items
  pub fit : All (result_item format d).Fits items

-- records with the places of their tags, the first of which stands at this place
abbrev pub placed : Format → DeviceParts → ℕ → List ResultItem → List (ℕ × ResultItem)
placed format d at [] = []
placed format d at (x ∷ others) =
    (at, x) ∷ placed format d (at + length ((result_item format d).text x)) others

-- the records of a whole result that begins at a place: those before the last one, and that one
abbrev pub file_of : Format → DeviceParts → ℕ → List ResultItem → List (ℕ × ResultItem)
file_of format d start items =
    placed format d (start + length (result_magic format)) (items ++ End ∷ [])

-- From a place on stands a result of this device, to the end of the bytes: the magic, records, and
-- the last record. It has these records at these places.
pub record IsResultAt (format : Format) (d : DeviceParts) (bytes : List ℕ) (start : ℕ)
    (file : List (ℕ × ResultItem)) : Type 0 where
  pub items : List ResultItem
  pub records : AreRecords format d items
  pub text : drop start bytes
      ≡ result_magic format ++ (flat_map (result_item format d).text items ++ end_text)
  pub places : file ≡ file_of format d start items

-- these records, unless memory ran out
abbrev pub IsFile : Result (List (ℕ × ResultItem)) (Or CaptureFault) → List (ℕ × ResultItem)
    → Type 0
IsFile (Ok found) file = found ≡ file
IsFile (Err e) file = IfFault e (λ f. ⊥)
