-- Texts that grow.
use Rattle.std.proofs.Common.{◌≡◌, ℕ, List, [], ◌++◌, sym, ap, ◌∙◌, append_assoc}
use Rattle.std.proofs.lemmas.List.{append-nil}
use Rattle.exact_text.specs.Spellings.{Grows}

pub grows_same : (old : List ℕ) → Grows old old
grows_same old = ([], sym (append-nil old))

pub grows_by : (old new more : List ℕ) → new ≡ old ++ more → Grows old new
grows_by old new more e = (more, e)

pub grows_then : (a b c : List ℕ) → Grows a b → Grows b c → Grows a c
grows_then a b c p q = (
  p.0 ++ q.0,
  q.1 ∙ ap (λ (z : List ℕ). z ++ q.0) p.1
      ∙ append_assoc a p.0 q.0,
)

-- what functions need whose clause says that a text grows
pub ruleset growth = (grows_same, grows_by, grows_then)
