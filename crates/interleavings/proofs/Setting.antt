-- Blocks that are not there.
use Rattle.std.proofs.Common.{◌≡◌, false, Option, None, Some, refl, sym}
use Rattle.std.specs.Prelude.{is_some}
use Rattle.std.proofs.lemmas.Bool.{false≢true}

pub none_there : {X : Type 0} (o : Option X) → is_some o ≡ false → o ≡ None
none_there None e = refl
none_there (Some x) e = absurd (false≢true (sym e))
