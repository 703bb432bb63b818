-- A text that is refused writes no number.
use Rattle.std.proofs.Common.{◌≡◌, ◌↔◌, Option, Some, None, Result, Ok, Err, option_map, IsOk}
use Rattle.std.proofs.Common.{true≢false, refl, sym}

pub unread : {A B E : Type 0} (f : A → B) (r : Result A E) (o : Option A) (e : E) → r ≡ Err e
    → (IsOk r ↔ ((u : A) × (o ≡ Some u)))
    → None ≡ option_map f o
unread f (Ok a) o e is h = absurd (cc)
unread f (Err x) None e is h = refl
unread f (Err x) (Some a) e is h = absurd (true≢false (sym (h.1 (a, refl))))
