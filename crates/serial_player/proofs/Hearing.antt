-- Streams, record by record.
use Rattle.std.proofs.Common.{◌≡◌, ℕ, zero, suc, ◌+◌, ◌<◌, ◌≤◌, Bool, true, false, eqb, List, []}
use Rattle.std.proofs.Common.{◌∷◌, ◌++◌, length, take, map, Ok, Err, Option, Some, inl, inr, ◌⊎◌, refl, sym, ap}
use Rattle.std.proofs.Common.{subst, ◌∙◌, arith, append_assoc}
use Rattle.std.specs.Prelude.{OnOk, Result, replicate, slice_index_or, slice_set}
use Rattle.std.specs.List.{AllByRecursion}
use Rattle.std.proofs.lemmas.Bool.{cases_Bool, cases_lt, eqb-true, eq-eqb, false≢true}
use Rattle.std.proofs.lemmas.Grind.{flat_map-append, get_or-set_at}
use Rattle.std.proofs.lemmas.List.{append-nil, get_or-replicate, get_or-set_other, length-append}
use Rattle.std.proofs.lemmas.List.{map-append}
use Rattle.std.proofs.lemmas.Result.{IfOk-weaker}
use Rattle.httparse.specs.Grammar.{RequestHead, print_blank, print_request}
use Rattle.httparse.proofs.GrammarLemmas.{print_request-append}
use Rattle.io_caps.specs.declared.limits.TheConstants.{CLIENTS}
use Rattle.http_wire.specs.Stream.{Answer, BeginsWith, IsAnswered, Stand, Steps, behind, ended}
use Rattle.http_wire.specs.Stream.{FeedsOn, holds, answers_of as answers_found}
use Rattle.http_wire.specs.Stream.Answer.{whole, refused}
use Rattle.http_wire.specs.declared.request.HttpRequest.{HttpRequest}
use Rattle.http_wire.specs.declared.stream.Next.{Next}
use Rattle.http_wire.specs.declared.stream.Next.TheVariants as next
use Rattle.http_wire.proofs.ScanLemmas.{no_line_open}
use Rattle.capture_file.specs.declared.items.Item.{Item}
use Rattle.capture_file.specs.declared.items.Item.TheVariants.{Packet, Piece, Ask as AskItem, Work}
use Rattle.book_words.specs.declared.requests.Request.{Request}
use Rattle.plain_book.proofs.Lists.{all_append}
use Rattle.serial_player.specs.Asks.{IsAskThere, ask_of}
use Rattle.serial_player.specs.Resolved.{AreAnswered, Hears, IsAnswerNext, IsDue, IsNextAsk}
use Rattle.serial_player.specs.Resolved.{IsNoneNext, IsResolved, left_of, stand_in}
use Rattle.serial_player.specs.Serial.{IsStepThere, steps_by, steps_in, steps_of}
use Rattle.serial_player.specs.Streams.{AtPieces, IsHeard, IsSettled, Turn, answers_in}
use Rattle.serial_player.specs.Streams.{answers_of, bytes_in, bytes_of, turn}
use Rattle.serial_player.specs.declared.asks.ClientAsk.{ClientAsk}
use Rattle.serial_player.specs.declared.asks.ClientAsk.TheVariants.{Asked}
use Rattle.serial_player.specs.declared.asks.Step.{Step}
use Rattle.serial_player.specs.declared.asks.Step.TheVariants.{Claims, Ask}

-- what holds of what came holds where it is weakened
pub on_ok : {T E : Type 0} (r : Result T E) (P Q : Type 0) → (P → Q) → OnOk r P → OnOk r Q
on_ok r P Q f = IfOk-weaker r (λ _. P) (λ _. Q) (λ _ p. f p)

pub both_ok : {T E : Type 0} (r : Result T E) (P Q : Type 0) → OnOk r P → OnOk r Q → OnOk r (P × Q)
both_ok (Ok x) P Q p q = (p, q)
both_ok (Err e) P Q p q = tt

-- ---- an answer takes bytes of a stream, or ends it

mid_long : (a b c all : List ℕ) → all ≡ a ++ (b ++ c) → 0 < length b → 0 < length all
mid_long a b c all is some =
    omega (arith, some, ap length is, length-append a (b ++ c), length-append b c)

-- a head has bytes
head_long : (h : RequestHead) → 0 < length h.method → 0 < length (print_request h)
head_long h some =
    omega (
      arith,
      mid_long (print_blank h.blank) h.method _ (print_request h ++ []) (print_request-append h [])
          some,
      length-append (print_request h) [],
    )

begins_less : (bytes rest : List ℕ) (http : HttpRequest) → BeginsWith bytes http rest
    → length rest < length bytes
begins_less bytes rest http is =
    let reads = is.fits.reads in
    omega (
      arith,
      head_long is.head reads.0.method.0,
      ap length reads.1,
      length-append (print_request is.head) (is.body ++ rest),
      length-append is.body rest,
    )

behind_less : (http : HttpRequest) (rest : List ℕ) (n : ℕ) (closes : Bool) → http.closes ≡ closes
    → length rest < n → left_of (behind http rest) < suc n
behind_less http rest n true is less = rw is (omega arith)
behind_less http rest n false is less = rw is (omega (arith, less))

whole_less : (old new : Stand) (http : HttpRequest) → Steps old (next.Request http) new
    → left_of new < left_of old
whole_less (holds bytes) new http (rest, begins, at) =
    subst (λ (to : Stand). left_of to < suc (length bytes)) (sym at)
    (behind_less http rest (length bytes) http.closes refl (begins_less bytes rest http begins))
whole_less ended new http steps = absurd steps

refused_less : (old new : Stand) (status : ℕ) → Steps old (next.Bad status) new
    → left_of new < left_of old
refused_less (holds bytes) new status (is, at) =
    subst (λ (to : Stand). left_of to < suc (length bytes)) (sym at) (omega arith)
refused_less ended new status steps = absurd steps

-- ---- what is next of a stream

none_next : (old new : Stand) (found : Next) → answers_found found ≡ [] → IsDue old found new
    → IsSettled new → IsNoneNext old new
none_next old new found none is settled = record {
  answers = λ bytes before at.
      subst (λ (xs : List Answer). IsAnswered bytes xs new) (append-nil before)
      (subst (λ (xs : List Answer). IsAnswered bytes (before ++ xs) new) none
      (is.answers bytes before at));
  settled = settled;
}

pub need_next : (old new : Stand) (found : Next) → (found ≡ next.Need) ⊎ (found ≡ next.Ended)
    → IsDue old found new → IsNoneNext old new
need_next old new found (inl at) is =
    let own = subst (λ (x : Next). IsDue old x new) at is in
    none_next old new next.Need refl own own.due
need_next old new found (inr at) is =
    let own = subst (λ (x : Next). IsDue old x new) at is in
    none_next old new next.Ended refl own own.due

pub whole_next : (old new : Stand) (found : Next) (http : HttpRequest) → found ≡ next.Request http
    → IsDue old found new → IsAnswerNext old (whole http) new
whole_next old new found http at is =
    let own = subst (λ (x : Next). IsDue old x new) at is in
    record { answers = own.answers; there = tt; less = whole_less old new http own.steps }

pub refused_next : (old new : Stand) (found : Next) (status : ℕ) → found ≡ next.Bad status
    → IsDue old found new → IsAnswerNext old (refused status) new
refused_next old new found status at is =
    let own = subst (λ (x : Next). IsDue old x new) at is in
    record { answers = own.answers; there = own.due; less = refused_less old new status own.steps }

-- ---- a stream that goes on

-- a piece came, and nothing is found yet
pub heard_nothing : (client : ℕ) (piece : List ℕ) (old new : Stand) (steps : List Step)
    → FeedsOn old piece new → Hears client piece old new steps steps
heard_nothing client piece old new steps fed = record {
  answers = [];
  fed = λ bytes before at.
      subst (λ (xs : List Answer). IsAnswered (bytes ++ piece) xs new) (sym (append-nil before))
      (fed bytes before at);
  there = tt;
  steps = sym (append-nil steps);
}

pub stands_still : (client : ℕ) (stand : Stand) (steps : List Step)
    → Hears client [] stand stand steps steps
stands_still client stand steps =
    heard_nothing client [] stand stand steps (λ bytes before at.
    subst (λ (xs : List ℕ). IsAnswered xs before stand) (sym (append-nil bytes)) at)

-- more was found after what was found before
pub heard_then : (client : ℕ) (piece : List ℕ) (old mid new : Stand) (before so_far after : List Step)
    → Hears client piece old mid before so_far → Hears client [] mid new so_far after
    → Hears client piece old new before after
heard_then client piece old mid new before so_far after a b =
    let ask : Answer → Step = λ answer. Ask client (ask_of answer) in
    record {
      answers = a.answers ++ b.answers;
      fed = λ bytes told at.
          subst (λ (xs : List ℕ). IsAnswered xs (told ++ (a.answers ++ b.answers)) new)
          (append-nil (bytes ++ piece))
          (subst (λ (xs : List Answer). IsAnswered ((bytes ++ piece) ++ []) xs new)
          (append_assoc told a.answers b.answers)
          (b.fed (bytes ++ piece) (told ++ a.answers) (a.fed bytes told at)));
      there = all_append (λ (answer : Answer). IsAskThere (ask_of answer)) a.answers b.answers
          a.there b.there;
      steps = b.steps ∙ ap (λ (xs : List Step). xs ++ map ask b.answers) a.steps
          ∙ append_assoc before (map ask a.answers) (map ask b.answers)
          ∙ ap (λ (xs : List Step). before ++ xs) (sym (map-append ask a.answers b.answers));
    }

-- an answer was found
pub heard_one : (client : ℕ) (answer : Answer) (old new : Stand) (steps : List Step)
    → IsAnswerNext old answer new
    → Hears client [] old new steps (steps ++ Ask client (ask_of answer) ∷ [])
heard_one client answer old new steps is = record {
  answers = answer ∷ [];
  fed = λ bytes before at.
      subst (λ (xs : List ℕ). IsAnswered xs (before ++ answer ∷ []) new) (sym (append-nil bytes))
      (is.answers bytes before at);
  there = (is.there, tt);
  steps = refl;
}

-- the next ask was found
pub heard_next : (client : ℕ) (piece : List ℕ) (old mid new : Stand) (before so_far after : List Step)
    (found : Option ClientAsk) (ask : ClientAsk) → Hears client piece old mid before so_far
    → found ≡ Some ask → IsNextAsk mid found new → after ≡ so_far ++ Ask client ask ∷ []
    → Hears client piece old new before after
heard_next client piece old mid new before so_far after found ask a is next_is steps =
    let own : IsNextAsk mid (Some ask) new =
    subst (λ (o : Option ClientAsk). IsNextAsk mid o new) is next_is in
    let one : so_far ++ Ask client (ask_of own.0) ∷ [] ≡ after =
    ap (λ (x : ClientAsk). so_far ++ Ask client x ∷ []) (sym own.1) ∙ sym steps in
    heard_then client piece old mid new before so_far after a
    (subst (λ (xs : List Step). Hears client [] mid new so_far xs) one
    (heard_one client own.0 mid new so_far own.2))

-- nothing more was
pub heard_none : (client : ℕ) (piece : List ℕ) (old mid new : Stand) (before after : List Step)
    → Hears client piece old mid before after → IsNoneNext mid new
    → Hears client piece old new before after
heard_none client piece old mid new before after a is = record {
  answers = a.answers;
  fed = λ bytes told at. is.answers (bytes ++ piece) (told ++ a.answers) (a.fed bytes told at);
  there = a.there;
  steps = a.steps;
}

-- ---- one more record

bytes_more : (client : ℕ) (turns : List Turn) (t : Turn)
    → bytes_of client (turns ++ t ∷ []) ≡ bytes_of client turns ++ bytes_in client t
bytes_more client turns t =
    flat_map-append (bytes_in client) turns (t ∷ [])
    ∙ ap (λ (xs : List ℕ). bytes_of client turns ++ xs) (append-nil (bytes_in client t))

answers_more : (client : ℕ) (turns : List Turn) (t : Turn)
    → answers_of client (turns ++ t ∷ []) ≡ answers_of client turns ++ answers_in client t
answers_more client turns t =
    flat_map-append (answers_in client) turns (t ∷ [])
    ∙ ap (λ (xs : List Answer). answers_of client turns ++ xs) (append-nil (answers_in client t))

steps_more : (turns : List Turn) (t : Turn)
    → steps_of (turns ++ t ∷ []) ≡ steps_of turns ++ steps_in t
steps_more turns t =
    flat_map-append steps_in turns (t ∷ [])
    ∙ ap (λ (xs : List Step). steps_of turns ++ xs) (append-nil (steps_in t))

take_front : {X : Type 0} (xs ys : List X) (n : ℕ) → n ≤ length xs → take n (xs ++ ys) ≡ take n xs
take_front xs ys zero le = refl
take_front [] ys (suc n) le = absurd (omega (arith, le))
take_front {X} (x ∷ xs) ys (suc n) le =
    ap (λ (zs : List X). x ∷ zs) (take_front xs ys n (omega (arith, le)))

pub take_whole : {X : Type 0} (xs : List X) (n : ℕ) → length xs ≤ n → take n xs ≡ xs
take_whole [] zero le = refl
take_whole [] (suc n) le = refl
take_whole (x ∷ xs) zero le = absurd (omega (arith, le))
take_whole {X} (x ∷ xs) (suc n) le =
    ap (λ (zs : List X). x ∷ zs) (take_whole xs n (omega (arith, le)))

pushed : {X : Type 0} (xs : List X) (x : X) → length (xs ++ x ∷ []) ≡ length xs + 1
pushed xs x = length-append xs (x ∷ [])

-- how each client's stream goes on by a record with these answers
abbrev GoOn : Item → List Answer → List Stand → List Stand → Type 0
GoOn item answers old new =
    (client : ℕ) → client < CLIENTS → (bytes : List ℕ) (before : List Answer)
    → IsAnswered bytes before (stand_in old client)
    → IsAnswered (bytes ++ bytes_in client (turn item answers))
    (before ++ answers_in client (turn item answers)) (stand_in new client)

-- nothing is due where nothing was
abbrev StaySettled : List Stand → List Stand → Type 0
StaySettled old new =
    (client : ℕ) → client < CLIENTS → IsSettled (stand_in old client)
    → IsSettled (stand_in new client)

turn_more : (items : List Item) (item : Item) (answers : List Answer) (old new : List Stand)
    (before after : List Step) → IsResolved items old before
    → AtPieces item answers → after ≡ before ++ steps_by item answers
    → AllByRecursion IsStepThere (steps_by item answers)
    → GoOn item answers old new → StaySettled old new
    → IsResolved (items ++ item ∷ []) new after
turn_more items item answers old new before after is at_piece steps there on settled =
    let t : Turn = turn item answers in
    let turns : List Turn = is.turns ++ t ∷ [] in
    let answered : AreAnswered turns new = λ client lt. (
      subst (λ (xs : List ℕ). IsAnswered xs (answers_of client turns) (stand_in new client))
          (sym (bytes_more client is.turns t))
          (subst (λ (xs : List Answer). IsAnswered (bytes_of client is.turns ++ bytes_in client t)
          xs (stand_in new client)) (sym (answers_more client is.turns t))
          (on client lt (bytes_of client is.turns) (answers_of client is.turns)
          (is.answered client lt).0)),
      settled client lt (is.answered client lt).1,
    ) in
    record {
      turns = turns;
      items_are = map-append (λ (x : Turn). x.item) is.turns (t ∷ [])
          ∙ ap (λ (xs : List Item). xs ++ item ∷ []) is.items_are;
      streams = record {
        heard = λ client count lt. elim (cases_lt (length is.turns) count) [
          | inl past ↦
              let long : length turns ≤ count = omega (arith, past, pushed is.turns t) in
              subst (IsHeard client) (sym (take_whole turns count long))
              (record {
                stand = stand_in new client;
                answered = (answered client lt).0;
                settled = (answered client lt).1;
              })
          | inr within ↦ subst (IsHeard client) (sym (take_front is.turns (t ∷ []) count within))
              (is.streams.heard client count lt)
        ];
        at_pieces = all_append (λ (x : Turn). AtPieces x.item x.answers) is.turns (t ∷ [])
            is.streams.at_pieces (at_piece, tt);
      };
      answered = answered;
      steps_are = steps
          ∙ ap (λ (xs : List Step). xs ++ steps_by item answers) is.steps_are
          ∙ sym (steps_more is.turns t);
      there = rw steps (all_append IsStepThere before (steps_by item answers) is.there there);
    }

-- ---- records of each kind

quiet_on : (old new : List Stand) (client : ℕ) → stand_in new client ≡ stand_in old client
    → (bytes : List ℕ) (before : List Answer) → IsAnswered bytes before (stand_in old client)
    → IsAnswered (bytes ++ []) (before ++ []) (stand_in new client)
quiet_on old new client same bytes before at =
    subst (λ (xs : List ℕ). IsAnswered xs (before ++ []) (stand_in new client))
    (sym (append-nil bytes))
    (subst (λ (xs : List Answer). IsAnswered bytes xs (stand_in new client))
    (sym (append-nil before)) (subst (IsAnswered bytes before) (sym same) at))

-- a record with which no stream goes on
quiet_more : (items : List Item) (item : Item) (stands : List Stand) (before after : List Step)
    → IsResolved items stands before → AtPieces item []
    → ((client : ℕ) → bytes_in client (turn item []) ≡ [])
    → ((client : ℕ) → answers_in client (turn item []) ≡ [])
    → after ≡ before ++ steps_by item [] → AllByRecursion IsStepThere (steps_by item [])
    → IsResolved (items ++ item ∷ []) stands after
quiet_more items item stands before after is at no_bytes no_answers steps there =
    turn_more items item [] stands stands before after is at steps there
    (λ client lt bytes told answered.
    subst (λ (xs : List ℕ). IsAnswered (bytes ++ xs)
    (told ++ answers_in client (turn item [])) (stand_in stands client))
    (sym (no_bytes client))
    (subst (λ (xs : List Answer). IsAnswered (bytes ++ []) (told ++ xs) (stand_in stands client))
    (sym (no_answers client)) (quiet_on stands stands client refl bytes told answered)))
    (λ client lt settled. settled)

pub packet_more : (items : List Item) (item : Item) (input : ℕ) (bytes : List ℕ)
    (stands : List Stand) (steps : List Step) → item ≡ Packet input bytes
    → IsResolved items stands steps → IsResolved (items ++ item ∷ []) stands steps
packet_more items item input bytes stands steps at is =
    subst (λ (x : Item). IsResolved (items ++ x ∷ []) stands steps) (sym at)
    (quiet_more items (Packet input bytes) stands steps steps is refl (λ client. refl)
    (λ client. refl) (sym (append-nil steps)) tt)

pub ask_more : (items : List Item) (item : Item) (client : ℕ) (request : Request)
    (stands : List Stand) (before after : List Step) → item ≡ AskItem client request
    → client < CLIENTS → after ≡ before ++ Ask client (Asked request) ∷ []
    → IsResolved items stands before → IsResolved (items ++ item ∷ []) stands after
ask_more items item client request stands before after at lt steps is =
    subst (λ (x : Item). IsResolved (items ++ x ∷ []) stands after) (sym at)
    (quiet_more items (AskItem client request) stands before after is refl (λ client. refl)
    (λ client. refl) steps ((lt, tt), tt))

pub work_more : (items : List Item) (item : Item) (claims : ℕ) (stands : List Stand)
    (before after : List Step) → item ≡ Work claims → after ≡ before ++ Claims claims ∷ []
    → IsResolved items stands before → IsResolved (items ++ item ∷ []) stands after
work_more items item claims stands before after at steps is =
    subst (λ (x : Item). IsResolved (items ++ x ∷ []) stands after) (sym at)
    (quiet_more items (Work claims) stands before after is refl (λ client. refl)
    (λ client. refl) steps (tt, tt))

-- the asks of a client's stream can be taken
asks_there : (client : ℕ) (answers : List Answer) → client < CLIENTS
    → AllByRecursion (λ answer. IsAskThere (ask_of answer)) answers
    → AllByRecursion IsStepThere (map (λ answer. Ask client (ask_of answer)) answers)
asks_there client [] lt there = tt
asks_there client (answer ∷ answers) lt there =
    ((lt, there.0), asks_there client answers lt there.1)

piece_taken : (items : List Item) (client : ℕ) (piece : List ℕ) (old new : List Stand)
    (before after : List Step) → client < CLIENTS
    → Hears client piece (stand_in old client) (stand_in new client) before after
    → IsSettled (stand_in new client)
    → ((other : ℕ) → eqb client other ≡ false → stand_in new other ≡ stand_in old other)
    → IsResolved items old before → IsResolved (items ++ Piece client piece ∷ []) new after
piece_taken items client piece old new before after lt hears settled others is =
    turn_more items (Piece client piece) hears.answers old new before after is tt hears.steps
    (asks_there client hears.answers lt hears.there)
    (λ other lt bytes told at. elim (cases_Bool (eqb client other)) [
      | inl own ↦
          let same : client ≡ other = eqb-true client other own in
          rw own (subst (λ (c : ℕ). IsAnswered (bytes ++ piece) (told ++ hears.answers)
          (stand_in new c)) same
          (hears.fed bytes told
          (subst (λ (c : ℕ). IsAnswered bytes told (stand_in old c)) (sym same) at)))
      | inr apart ↦ rw apart (quiet_on old new other (others other apart) bytes told at)
    ])
    (λ other lt due. elim (cases_Bool (eqb client other)) [
      | inl own ↦ subst (λ (c : ℕ). IsSettled (stand_in new c)) (eqb-true client other own) settled
      | inr apart ↦ subst IsSettled (sym (others other apart)) due
    ])

-- the stream of one client alone goes on
pub piece_more : (items : List Item) (item : Item) (client : ℕ) (bytes piece : List ℕ)
    (old new : List Stand) (from to : Stand) (before after : List Step)
    → item ≡ Piece client bytes → piece ≡ bytes → client < CLIENTS → length old ≡ CLIENTS
    → from ≡ stand_in old client → new ≡ slice_set old client to
    → Hears client piece from to before after × IsSettled to
    → IsResolved items old before → IsResolved (items ++ item ∷ []) new after
piece_more items item client bytes piece old new from to before after at same lt long from_is new_is
    both is =
    let own : stand_in new client ≡ to =
    ap (λ (xs : List Stand). slice_index_or xs client ended) new_is
    ∙ get_or-set_at old client client to ended refl (omega (arith, lt, long)) in
    subst (λ (x : Item). IsResolved (items ++ x ∷ []) new after)
    (sym (at ∙ ap (Piece client) (sym same)))
    (piece_taken items client piece old new before after lt
    (rw (← from_is, own) both.0) (rw own both.1)
    (λ other apart. ap (λ (xs : List Stand). slice_index_or xs other ended) new_is
    ∙ get_or-set_other old client other to ended
    (λ e. false≢true (sym apart ∙ eq-eqb client other (sym e)))) is)

-- ---- nothing yet

none_due : IsSettled (holds [])
none_due = inl (omega arith, no_line_open [] refl)

pub none_resolved : (stands : List Stand) (steps : List Step)
    → stands ≡ replicate CLIENTS (holds []) → steps ≡ [] → IsResolved [] stands steps
none_resolved stands steps new none =
    let at : (client : ℕ) → client < CLIENTS → stand_in stands client ≡ holds [] = λ client lt.
    ap (λ (xs : List Stand). slice_index_or xs client ended) new
    ∙ get_or-replicate CLIENTS client (holds []) ended lt in
    record {
      turns = [];
      items_are = refl;
      streams = record {
        heard = λ client count lt. subst (IsHeard client) (sym (take_whole [] count (omega arith)))
            (record { stand = holds []; answered = refl; settled = none_due });
        at_pieces = tt;
      };
      answered = λ client lt. (at client lt, subst IsSettled (sym (at client lt)) none_due);
      steps_are = none;
      there = rw none tt;
    }
