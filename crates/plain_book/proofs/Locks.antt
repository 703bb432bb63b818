-- At most one pending call names an output.
use Rattle.std.proofs.Common.{◌≡◌, ℕ, ◌≤◌, Bool, true, false, List, [], ◌∷◌, ◌++◌, None, inl, inr}
use Rattle.std.proofs.Common.{refl, sym, ap, subst, ◌∙◌}
use Rattle.std.specs.Prelude.{eqb, if◌then◌else◌, Option, Some}
use Rattle.std.proofs.lemmas.Bool.{false≢true, eqb-true}
use Rattle.list_laws.proofs.Options.{option_or-first, option_or-second}
use Rattle.map_entry.specs.Action.{OutputChangeParts}
use Rattle.map_entry.specs.Setup.{SetupParts}
use Rattle.plain_book.specs.Book.{bad_channel_by, bad_row_by, empty_by, first_some, locked_at}
use Rattle.plain_book.specs.Book.{locked_by, refusal_of, time_by, unknown_by}
use Rattle.book_words.specs.Calls.{names_output}
use Rattle.plain_book.specs.Legal.{IsAccepted, IsLegalJournal}
use Rattle.plain_book.specs.Pending.{is_locked, is_pending, pending_of}
use Rattle.book_words.specs.declared.calls.JournalCall.{JournalCall}
use Rattle.book_words.specs.declared.replies.Refusal.TheVariants.{Locked}
use Rattle.book_words.specs.declared.requests.When.{When}
use Rattle.plain_book.proofs.Accepted.{IsActivated, cases}
use Rattle.plain_book.proofs.Lists.{IsIn, in_more, in_last, in_left, any_in, any_from, in_filter}
use Rattle.plain_book.proofs.Prefixes.{legal_by}
use Rattle.plain_book.proofs.Waiting.{HasOutputs, IsWaiting, waiting, sooner, waits_before}

-- ---- what an accepted activation is not refused for

pub record IsFree (s : SetupParts) (before : List JournalCall) (claims : ℕ) (when : When)
    (action : List OutputChangeParts) : Type 0 where
  pub some : empty_by action ≡ None
  pub known : unknown_by s.device action ≡ None
  pub channels : bad_channel_by s.device action ≡ None
  pub unlocked : locked_by s before claims action ≡ None
  pub rows : bad_row_by s before claims action ≡ None
  pub in_time : time_by s claims when ≡ None

pub is_free : (s : SetupParts) (before : List JournalCall) (claims : ℕ) (when : When)
    (action : List OutputChangeParts) → refusal_of s before claims when action ≡ None
    → IsFree s before claims when action
unfolding refusal_of
is_free s before claims when action e =
    let e1 = option_or-second _ _ e in
    let e2 = option_or-second _ _ e1 in
    let e3 = option_or-second _ _ e2 in
    let e4 = option_or-second _ _ e3 in
    record {
      some = option_or-first _ _ e;
      known = option_or-first _ _ e1;
      channels = option_or-first _ _ e2;
      unlocked = option_or-first _ _ e3;
      rows = option_or-first _ _ e4;
      in_time = option_or-second _ _ e4;
    }

pub first_none : {X Y : Type 0} (f : X → Option Y) (xs : List X) (x : X) → first_some f xs ≡ None
    → IsIn x xs
    → f x ≡ None
first_none f [] x e i = absurd i
first_none f (y ∷ ys) x e (inl same) = sym (ap f same) ∙ option_or-first _ _ e
first_none f (y ∷ ys) x e (inr i) = first_none f ys x (option_or-second _ _ e) i

-- a test that would have told something is not passed
pub none_told : {X : Type 0} (b : Bool) (x : X) → (if b then Some x else None) ≡ None → b ≡ false
none_told true x e = absurd cc
none_told false x e = refl

-- an output that the action names is not locked
pub not_locked : (s : SetupParts) (before : List JournalCall) (call : JournalCall) (when : When)
    (action : List OutputChangeParts) (o : ℕ) → IsActivated s before call when action
    → names_output o call.request ≡ true
    → is_locked s before call.at o ≡ false
not_locked s before call when action o is named =
    let free = is_free s before call.at when action is.free in
    let f =
    any_from (λ (c : OutputChangeParts). eqb c.output o) action
    (sym (ap (names_output o) is.asks) ∙ named) in
    let at : f.item.output ≡ o = eqb-true f.item.output o f.passes in
    let out = none_told (is_locked s before call.at f.item.output) (Locked f.item.output)
    (first_none (locked_at s before call.at) action f.item free.unlocked f.member) in
    subst (λ (k : ℕ). is_locked s before call.at k ≡ false) at out

-- ---- pending calls that name an output

pub record Holds (s : SetupParts) (journal : List JournalCall) (claims output : ℕ)
    (call : JournalCall) : Type 0 where
  pub member : IsIn call journal
  pub pending : IsWaiting s journal claims call
  pub named : names_output output call.request ≡ true

pub holds_locked : (s : SetupParts) (journal : List JournalCall) (claims o : ℕ) (p : JournalCall)
    → Holds s journal claims o p
    → is_locked s journal claims o ≡ true
holds_locked s journal claims o p h =
    any_in (λ (c : JournalCall). names_output o c.request) p (pending_of s journal claims)
    (in_filter (is_pending s journal claims) p journal h.member
    (waiting s journal claims p h.pending)) h.named

abbrev pub IsAlone : SetupParts → List JournalCall → Type 0
IsAlone s journal =
    (c o : ℕ) (p q : JournalCall) → ((x : JournalCall) → IsIn x journal → x.at ≤ c)
    → Holds s journal c o p → Holds s journal c o q → p ≡ q

held_before : (s : SetupParts) (before : List JournalCall) (call : JournalCall) (c o : ℕ)
    (p : JournalCall) → IsIn p before → Holds s (before ++ call ∷ []) c o p
    → Holds s before c o p
held_before s before call c o p member h = record {
  member = member;
  pending = waits_before s before call c p h.pending;
  named = h.named;
}

held_sooner : (s : SetupParts) (before : List JournalCall) (a c o : ℕ) (p : JournalCall)
    → HasOutputs s → a ≤ c → Holds s before c o p
    → Holds s before a o p
held_sooner s before a c o p some le h = record {
  member = h.member;
  pending = sooner s before a c p some le h.pending;
  named = h.named;
}

-- no call before an accepted activation holds an output that this names
pub none_held : (s : SetupParts) (before : List JournalCall) (call : JournalCall) (c o : ℕ)
    (p : JournalCall) → HasOutputs s → IsAccepted s before call → call.at ≤ c
    → names_output o call.request ≡ true → Holds s before c o p
    → ⊥
none_held s before call c o p some is le named h = elim (cases s before call is) [
  | inl a ↦
      false≢true (sym (not_locked s before call a.0 a.1 o a.2 named)
      ∙ holds_locked s before call.at o p (held_sooner s before call.at c o p some le h))
  | inr d ↦ false≢true (sym (ap (names_output o) d.2.asks) ∙ named)
]

more_alone : (s : SetupParts) (before : List JournalCall) (call : JournalCall) → HasOutputs s
    → IsAccepted s before call → IsAlone s before
    → IsAlone s (before ++ call ∷ [])
more_alone s before call some is so_far c o p q within hp hq =
    let le : call.at ≤ c = within call (in_last before call) in
    elim (in_more p before call hp.member) [
      | inl old_p ↦ elim (in_more q before call hq.member) [
        | inl old_q ↦
            so_far c o p q (λ x i. within x (in_left x before (call ∷ []) i))
            (held_before s before call c o p old_p hp) (held_before s before call c o q old_q hq)
        | inr new_q ↦
            absurd (none_held s before call c o p some is le
            (ap (λ (z : JournalCall). names_output o z.request) new_q ∙ hq.named)
            (held_before s before call c o p old_p hp))
      ]
      | inr new_p ↦ elim (in_more q before call hq.member) [
        | inl old_q ↦
            absurd (none_held s before call c o q some is le
            (ap (λ (z : JournalCall). names_output o z.request) new_p ∙ hp.named)
            (held_before s before call c o q old_q hq))
        | inr new_q ↦ sym new_p ∙ new_q
      ]
    ]

pub alone : (s : SetupParts) (m : ℕ) (journal : List JournalCall) → HasOutputs s
    → IsLegalJournal s m journal
    → IsAlone s journal
alone s m journal some legal =
    legal_by s (IsAlone s) (λ c o p q within hp hq. absurd hp.member)
    (λ before call legal is so_far. more_alone s before call some is so_far) m journal legal
