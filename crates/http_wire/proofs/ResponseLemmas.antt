-- Texts that are appended one after the other.
use Rattle.std.proofs.Common.{◌≡◌, ℕ, List, ◌++◌, ap, ◌∙◌, append_assoc}

pub before : (old mid new part rest : List ℕ) → mid ≡ old ++ part → new ≡ mid ++ rest → new ≡ old ++ (part ++ rest)
before old mid new part rest first then = then ∙ ap (λ (s : List ℕ). s ++ rest) first ∙ append_assoc old part rest

pub put : (old new part text : List ℕ) → part ≡ text → new ≡ old ++ part → new ≡ old ++ text
put old new part text same e = e ∙ ap (λ (s : List ℕ). old ++ s) same

pub six : (a b c d e f g s t u v w x : List ℕ) → b ≡ a ++ s → c ≡ b ++ t → d ≡ c ++ u → e ≡ d ++ v → f ≡ e ++ w → g ≡ f ++ x
    → g ≡ a ++ (s ++ t ++ u ++ v ++ w ++ x)
six a b c d e f g s t u v w x p q r m n o =
    before a f g (s ++ t ++ u ++ v ++ w) x (before a e f (s ++ t ++ u ++ v) w
    (before a d e (s ++ t ++ u) v (before a c d (s ++ t) u (before a b c s t p q) r) m) n) o
