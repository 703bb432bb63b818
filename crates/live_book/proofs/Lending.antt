-- What tries without an answer leave, and what one with an answer tells after them.
use Rattle.std.proofs.Common.{◌≡◌, ℕ, ◌+◌, ◌*◌, ◌≤◌, List, [], ◌∷◌, ◌++◌, length, refl, sym}
use Rattle.std.proofs.Common.{ap, ◌∙◌, subst, arith, append_assoc, length-append}
use Rattle.std.proofs.lemmas.List.{append-nil}
use Rattle.list_laws.proofs.Items.{All-left}
use Rattle.map_entry.specs.Setup.{SetupParts}
use Rattle.map_entry.specs.declared.entry.Entry.{Entry}
use Rattle.claim_rule.specs.declared.plan.Plan.{Plan}
use Rattle.claim_rule.specs.declared.view.Sight.{Sight}
use Rattle.claim_rule.specs.declared.view.View.{View}
use Rattle.claim_rule.specs.Claims.{claims_at}
use Rattle.claim_rule.specs.Views.{note, noted, sight}
use Rattle.claim_word.specs.Faces.{ClientFace, IsClientOf, IsPublisherOf, PublisherFace, TableFace}
use Rattle.book_words.specs.declared.calls.JournalCall.{JournalCall}
use Rattle.book_words.specs.declared.given.Given.{Given}
use Rattle.book_words.specs.declared.replies.Reply.{Reply}
use Rattle.book_words.specs.declared.requests.Request.{Request}
use Rattle.book_words.specs.declared.requests.Stamp.{Stamp}
use Rattle.plain_book.specs.Desk.{IsAsked}
use Rattle.live_book.specs.Books.{BookFace, last_raw}
use Rattle.live_book.specs.Lent.{HeardMore, IsFewLoads}
use Rattle.live_book.specs.Tries.{AreBelow, GoesOn, IsLoadedLast, IsLoadedOnce, IsMoved, IsSame}
use Rattle.live_book.specs.Tries.{answer_entries}
use Rattle.live_book.specs.Places.{PlacesFace, answer_places, spent}
use Rattle.live_book.proofs.Sights.{last_push}

pub record IsTrying (t : TableFace) (b c : BookFace) (p q : ClientFace) (n : ℕ) : Type 0 where
  pub of : IsPublisherOf t c.publisher
  pub of_pass : IsClientOf t q
  pub goes_on : GoesOn b c
  pub same : IsSame b c
  pub places : c.places ≡ b.places
  pub heard : HeardMore p q
  pub earlier : List Sight
  pub sights : c.publisher.view.sights ≡ b.publisher.view.sights ++ earlier
  pub long : length earlier ≤ 2 * n
  pub passed : n ≤ last_raw c.publisher.view.sights
  pub few : n ≤ b.publisher.view.plan.packets + b.publisher.view.plan.workers

-- before the first try
pub trying_new : (t : TableFace) (b : BookFace) (p : ClientFace) → IsPublisherOf t b.publisher
    → IsClientOf t p → IsTrying t b b p p 0
trying_new t b p of of_pass = record {
  of = of;
  of_pass = of_pass;
  goes_on = record { setup = refl; publisher = refl; plan = refl; begun = refl };
  places = refl;
  same = record { entries = refl; journal = refl; given = refl };
  heard = record {
    id = refl;
    plan = refl;
    sights = refl;
    more = [];
    told = sym (append-nil p.view.told);
  };
  earlier = [];
  sights = sym (append-nil b.publisher.view.sights);
  long = omega arith;
  passed = omega arith;
  few = omega arith;
}

-- ---- one try after another

pub goes_since : (b c d : BookFace) → GoesOn b c → GoesOn c d → GoesOn b d
goes_since b c d one two = record {
  setup = two.setup ∙ one.setup;
  publisher = two.publisher ∙ ap (λ (f : PublisherFace). record f { view = d.publisher.view })
      one.publisher;
  plan = two.plan ∙ one.plan;
  begun = two.begun ∙ one.begun;
}

pub same_since : (b c d : BookFace) → IsSame b c → IsSame c d → IsSame b d
same_since b c d one two = record {
  entries = two.entries ∙ one.entries;
  journal = two.journal ∙ one.journal;
  given = two.given ∙ one.given;
}

pub heard_since : (p q r : ClientFace) (w : View) → HeardMore p q
    → r ≡ record q { view = noted q.view (note w) } → HeardMore p r
heard_since p q r w one is = record {
  id = ap (λ (z : ClientFace). z.id) is ∙ one.id;
  plan = ap (λ (z : ClientFace). z.view.plan) is ∙ one.plan;
  sights = ap (λ (z : ClientFace). z.view.sights) is ∙ one.sights;
  more = one.more ++ (w.sights ++ w.told);
  told = ap (λ (z : ClientFace). z.view.told) is
      ∙ ap (λ (xs : List Sight). xs ++ (w.sights ++ w.told)) one.told
      ∙ append_assoc p.view.told one.more (w.sights ++ w.told);
}

-- one more without an answer, since a number was drawn
pub trying_more : (t : TableFace) (b c d : BookFace) (p q r : ClientFace) (n claims : ℕ)
    → IsTrying t b c p q n → IsPublisherOf t d.publisher → IsClientOf t r → IsSame c d → GoesOn c d
    → d.places ≡ c.places
    → r ≡ record q { view = noted q.view (note d.publisher.view) }
    → IsMoved c.publisher.view d.publisher.view claims → IsTrying t b d p r (n + 1)
trying_more t b c d p q r n claims trying of of_pass same goes_on places heard moved =
    let k : ℕ = length c.publisher.view.entries in
    let one : Sight = sight moved.first k in
    let two : Sight = sight moved.raw k in
    let sights : d.publisher.view.sights ≡ b.publisher.view.sights
    ++ (trying.earlier ++ one ∷ two ∷ []) =
    moved.sights ∙ ap (λ (xs : List Sight). xs ++ one ∷ two ∷ []) trying.sights
    ∙ append_assoc b.publisher.view.sights trying.earlier (one ∷ two ∷ []) in
    let last : last_raw d.publisher.view.sights ≡ moved.raw =
    ap last_raw (moved.sights ∙ sym (append_assoc c.publisher.view.sights (one ∷ []) (two ∷ [])))
    ∙ last_push (c.publisher.view.sights ++ one ∷ []) two in
    let most = subst (λ (plan : Plan). moved.raw ≤ plan.packets + plan.workers) trying.goes_on.plan
    moved.most in
    record {
      of = of;
      of_pass = of_pass;
      goes_on = goes_since b c d trying.goes_on goes_on;
      same = same_since b c d trying.same same;
      places = places ∙ trying.places;
      heard = heard_since p q r d.publisher.view trying.heard heard;
      earlier = trying.earlier ++ one ∷ two ∷ [];
      sights = sights;
      long = omega (arith, length-append trying.earlier (one ∷ two ∷ []), trying.long);
      passed = omega (arith, last, moved.later, moved.above, trying.passed);
      few = omega (arith, most, moved.later, moved.above, trying.passed);
    }

-- ---- an answer after tries

pub asked_since : (b c d : BookFace) (client : ℕ) (request : Request) (reply : Reply)
    (stamp : Stamp) → GoesOn b c → IsSame b c
    → IsAsked c.setup c.journal d.journal client request reply stamp
    → IsAsked b.setup b.journal d.journal client request reply stamp
asked_since b c d client request reply stamp goes_on same asked =
    subst (λ (z : SetupParts × List JournalCall). IsAsked z.0 z.1 d.journal client request reply
    stamp) (λ k. (goes_on.setup k, same.journal k)) asked

pub given_since : (b c d : BookFace) (more : List Given) → IsSame b c → d.given ≡ c.given ++ more
    → d.given ≡ b.given ++ more
given_since b c d more same is = is ∙ ap (λ (xs : List Given). xs ++ more) same.given

pub entries_since : (b c d : BookFace) (client claims : ℕ) (request : Request) (reply : Reply)
    → GoesOn b c → IsSame b c
    → d.publisher.view.entries ≡ c.publisher.view.entries
    ++ answer_entries c.setup c.journal client claims request reply
    → d.publisher.view.entries ≡ b.publisher.view.entries
    ++ answer_entries b.setup b.journal client claims request reply
entries_since b c d client claims request reply goes_on same is =
    is ∙ ap (λ (xs : List Entry). xs ++ answer_entries c.setup c.journal client claims request
    reply) same.entries
    ∙ ap (λ (z : SetupParts × List JournalCall). b.publisher.view.entries
    ++ answer_entries z.0 z.1 client claims request reply) (λ k. (goes_on.setup k, same.journal k))

pub load_since : (t : TableFace) (b c d : BookFace) (p q : ClientFace) (n claims : ℕ)
    → IsTrying t b c p q n → IsLoadedOnce c.publisher.view d.publisher.view claims
    → IsLoadedLast b.publisher.view d.publisher.view claims
load_since t b c d p q n claims trying load = record {
  raw = load.raw;
  earlier = trying.earlier;
  sights = load.sights ∙ ap (λ (es : List Entry). c.publisher.view.sights
      ++ sight load.raw (length es) ∷ []) trying.same.entries
      ∙ ap (λ (xs : List Sight). xs ++ sight load.raw (length b.publisher.view.entries) ∷ [])
      trying.sights
      ∙ append_assoc b.publisher.view.sights trying.earlier
      (sight load.raw (length b.publisher.view.entries) ∷ []);
  claims_is = load.claims_is ∙ ap (λ (plan : Plan). claims_at plan load.raw) trying.goes_on.plan;
}

pub floor_since : (b c : BookFace) (p q : ClientFace) (claims : ℕ) → GoesOn b c → HeardMore p q
    → AreBelow c.publisher.view.plan claims (q.view.sights ++ q.view.told)
    → AreBelow b.publisher.view.plan claims (p.view.sights ++ p.view.told)
floor_since b c p q claims goes_on heard below =
    let same : q.view.sights ++ q.view.told ≡ (p.view.sights ++ p.view.told) ++ heard.more =
    ap (λ (xs : List Sight). xs ++ q.view.told) heard.sights
    ∙ ap (λ (xs : List Sight). p.view.sights ++ xs) heard.told
    ∙ sym (append_assoc p.view.sights p.view.told heard.more) in
    All-left (λ (x : Sight). claims_at b.publisher.view.plan x.raw ≤ claims)
    (p.view.sights ++ p.view.told) heard.more
    (subst (λ (z : Plan × List Sight). AreBelow z.0 claims z.1) (λ k. (goes_on.plan k, same k))
    below)

-- how many states were seen in all
pub few_since : (t : TableFace) (b c d : BookFace) (p q : ClientFace) (n : ℕ) (x : Sight)
    → IsTrying t b c p q n → d.publisher.view.sights ≡ c.publisher.view.sights ++ x ∷ []
    → IsFewLoads b.publisher.view.plan b.publisher.view d.publisher.view
few_since t b c d p q n x trying is =
    omega (
      arith,
      ap length is,
      length-append c.publisher.view.sights (x ∷ []),
      ap length trying.sights,
      length-append b.publisher.view.sights trying.earlier,
      trying.long,
      trying.few,
    )

pub spent_since : (b c d : BookFace) (client claims : ℕ) (request : Request) (reply : Reply)
    → GoesOn b c → IsSame b c → c.places ≡ b.places
    → d.places ≡ spent c.places client (answer_places c.setup c.journal client claims request reply)
    → d.places ≡ spent b.places client (answer_places b.setup b.journal client claims request reply)
spent_since b c d client claims request reply goes_on same places is =
    is
    ∙ ap (λ (pl : PlacesFace).
    spent pl client (answer_places c.setup c.journal client claims request reply)) places
    ∙ ap (λ (z : SetupParts × List JournalCall).
    spent b.places client (answer_places z.0 z.1 client claims request reply))
    (λ k. (goes_on.setup k, same.journal k))
