-- An ask that was answered is a step of what was played.
use Rattle.std.proofs.Common.{◌≡◌, ℕ, ◌+◌, ◌^◌, ◌<◌, Bool, true, false, eqb, cond, List, [], ◌∷◌}
use Rattle.std.proofs.Common.{◌++◌, length, Option, Some, None, inl, inr, ◌⊎◌, refl, sym, ap, subst}
use Rattle.std.proofs.Common.{◌∙◌, arith}
use Rattle.std.specs.Prelude.{slice_index_or, slice_set}
use Rattle.std.specs.List.{AllByRecursion}
use Rattle.std.specs.Option.{option_to_list}
use Rattle.std.proofs.lemmas.Bool.{cases_Bool, eqb-true, eq-eqb, false≢true}
use Rattle.std.proofs.lemmas.Grind.{get_or-set_at}
use Rattle.std.proofs.lemmas.List.{get_or-set_other, length-append, length-set}
use Rattle.io_caps.specs.declared.limits.TheConstants.{CLIENTS}
use Rattle.map_entry.specs.Setup.{SetupParts}
use Rattle.plain_book.specs.Book.{call_of, reply_of}
use Rattle.plain_book.specs.Desk.{DeskParts, IsAsked}
use Rattle.plain_book.specs.Given.{IsGiven, journal_after}
use Rattle.book_words.specs.History.{reply_item, stamp}
use Rattle.book_words.specs.declared.calls.JournalCall.{JournalCall}
use Rattle.book_words.specs.declared.history.ReplyItem.{ReplyItem}
use Rattle.book_words.specs.declared.history.Said.{Said}
use Rattle.book_words.specs.declared.replies.Reply.{Reply}
use Rattle.book_words.specs.declared.requests.Request.{Request}
use Rattle.book_words.specs.declared.requests.Stamp.{Stamp}
use Rattle.plain_book.proofs.Lists.{all_append}
use Rattle.interleavings.specs.Legal.{accepts, first_floor, next_floor}
use Rattle.interleavings.proofs.Places.{after_length}
use Rattle.io_caps.specs.declared.device.DeviceParts.{DeviceParts}
use Rattle.book_words.specs.declared.history.Said.TheVariants.{Plain, Http}
use Rattle.http_wire.specs.declared.request.HttpRequest.{HttpRequest}
use Rattle.api_routes.specs.Answer.{IsServed, OnStill, response_of, stream_response}
use Rattle.api_routes.specs.declared.serve.Answered.{Answered}
use Rattle.api_routes.specs.Plan.{request_asked}
use Rattle.api_routes.specs.declared.serve.Answered.TheVariants.{At, Still}
use Rattle.serial_player.specs.Asks.{asked_by, says_by}
use Rattle.serial_player.specs.Run.{AreAll, HasAsked, HasPlayed, IsWritable, IsShort, floor_at, counts_claims}
use Rattle.serial_player.specs.Serial.{Played, answer_to, floor_of, play_step, told_at, told_by}
use Rattle.serial_player.specs.declared.asks.ClientAsk.{ClientAsk}
use Rattle.serial_player.specs.declared.asks.ClientAsk.TheVariants.{Asked, Whole, Refused}
use Rattle.serial_player.specs.declared.asks.Step.TheVariants.{Ask}
use Rattle.serial_player.specs.declared.floors.Floors.{Floors}
use Rattle.serial_player.specs.declared.run.Run.{Run}
use Rattle.serial_player.proofs.Running.{asked_run, told_run}
use Rattle.serial_player.proofs.Told.{floor_next, floor_same}

-- one reply more
told_one : (old new : List ReplyItem) (client : ℕ) (place : Stamp) (said : Said)
    → new ≡ old ++ reply_item client place said ∷ [] → place.calls < 256 ^ 8 → IsShort said
    → AllByRecursion IsWritable old → AllByRecursion IsWritable new
told_one old new client place said told few short held =
    rw told (all_append IsWritable old (reply_item client place said ∷ []) held ((few, short), tt))

-- ---- where the book was asked

-- the book was asked with the request of an ask; the client is told what is said for its reply, and
-- goes on after all calls
pub record IsByBook (client : ℕ) (ask : ClientAsk) (old new : Run) : Type 0 where
  pub request : Request
  pub reply : Reply
  pub place : Stamp
  pub said : Said
  pub asks : asked_by old.desk.setup.device ask ≡ Some request
  pub says : says_by old.desk.setup.device ask (Some reply) ≡ Some said
  pub asked : IsAsked old.desk.setup old.desk.journal new.desk.journal client request reply place
  pub at : place.claims ≡ old.desk.claims
  pub own : new.setup ≡ old.setup
  pub setup : new.desk.setup ≡ old.desk.setup
  pub same : new.desk.claims ≡ old.desk.claims
  pub told : new.replies ≡ old.replies ++ reply_item client place said ∷ []
  pub few : length new.desk.journal < 256 ^ 8
  pub short : IsShort said
  pub floors : new.floors.places.items ≡ slice_set old.floors.places.items client
      (stamp (length new.desk.journal) new.desk.claims)

book_journal : (s : SetupParts) (before after : List JournalCall) (client : ℕ) (request : Request)
    (reply : Reply) (place : Stamp) (claims : ℕ) → IsAsked s before after client request reply place
    → place.claims ≡ claims
    → after ≡ before ++ option_to_list
    (call_of s before client claims request (reply_of s before claims request))
book_journal s before after client request reply place claims asked at =
    asked.journal
    ∙ ap (λ (r : Reply). before ++ option_to_list (call_of s before client place.claims request r))
    asked.reply_is
    ∙ ap (λ (c : ℕ). before
    ++ option_to_list (call_of s before client c request (reply_of s before c request))) at

by_accepted : (calls claims : ℕ) (b : Bool)
    → stamp (calls + cond b 1 0) claims ≡ next_floor (stamp calls claims) b
by_accepted calls claims true = refl
by_accepted calls claims false = ap (λ (n : ℕ). stamp n claims) (omega arith)

-- the place after the calls so far is the one from which the client goes on
floor_is : (s : SetupParts) (p : Played) (client : ℕ) (request : Request)
    (journal : List JournalCall) (claims : ℕ)
    → journal ≡ journal_after s p.journal (answer_to s p client request) → claims ≡ p.claims
    → stamp (length journal) claims ≡ next_floor (answer_to s p client request).stamp
    (accepts (answer_to s p client request).reply)
floor_is s p client request journal claims calls same =
    let g = answer_to s p client request in
    let given : IsGiven s p.journal 0 g =
    record { calls = refl; claims = omega arith; reply_is = refl } in
    let long : length journal ≡ length p.journal + cond (accepts g.reply) 1 0 =
    ap length calls ∙ after_length s p.journal 0 g given in
    ap (λ (n : ℕ). stamp n claims) long
    ∙ ap (λ (c : ℕ). stamp (length p.journal + cond (accepts g.reply) 1 0) c) same
    ∙ by_accepted (length p.journal) p.claims (accepts g.reply)

set_floor : (old new : Floors) (client : ℕ) (place : Stamp)
    → new.places.items ≡ slice_set old.places.items client place → client < length old.places.items
    → floor_at new client ≡ place
set_floor old new client place is lt =
    ap (λ (xs : List Stamp). slice_index_or xs client first_floor) is
    ∙ get_or-set_at old.places.items client client place first_floor refl lt

kept_floor : (old new : Floors) (client other : ℕ) (place : Stamp)
    → new.places.items ≡ slice_set old.places.items client place → eqb client other ≡ false
    → floor_at new other ≡ floor_at old other
kept_floor old new client other place is apart =
    ap (λ (xs : List Stamp). slice_index_or xs other first_floor) is
    ∙ get_or-set_other old.places.items client other place first_floor
    (λ e. false≢true (sym apart ∙ eq-eqb client other (sym e)))

book_played : (client : ℕ) (ask : ClientAsk) (old new : Run) (p : Played) → client < CLIENTS
    → AreAll old.floors → IsByBook client ask old new → HasPlayed p old
    → HasPlayed (play_step old.desk.setup p (Ask client ask)) new
book_played client ask old new p lt all is has =
    let s = old.desk.setup in
    let says = says_by s.device ask in
    let g = answer_to s p client is.request in
    let place : is.place ≡ g.stamp =
    ap (λ (n : ℕ). stamp n is.place.claims) (is.asked.calls ∙ ap length has.journal)
    ∙ ap (stamp (length p.journal)) (is.at ∙ has.claims) in
    let reply : is.reply ≡ g.reply =
    is.asked.reply_is ∙ ap (λ (j : List JournalCall). reply_of s j is.place.claims is.request)
    has.journal ∙ ap (λ (c : ℕ). reply_of s p.journal c is.request) (is.at ∙ has.claims) in
    let journal : new.desk.journal ≡ journal_after s p.journal g =
    book_journal s old.desk.journal new.desk.journal client is.request is.reply is.place p.claims
    is.asked (is.at ∙ has.claims)
    ∙ ap (λ (j : List JournalCall). j
    ++ option_to_list (call_of s j client p.claims is.request (reply_of s j p.claims is.request)))
    has.journal in
    let claims : new.desk.claims ≡ p.claims = is.same ∙ has.claims in
    let told : new.replies ≡ p.told ++ told_at client g.stamp (says (Some g.reply)) =
    is.told ∙ ap (λ (xs : List ReplyItem). xs ++ reply_item client is.place is.said ∷ []) has.told
    ∙ ap (λ (o : Option Said). p.told ++ told_at client is.place o) (sym is.says)
    ∙ ap (λ (r : Reply). p.told ++ told_at client is.place (says (Some r))) reply
    ∙ ap (λ (at : Stamp). p.told ++ told_at client at (says (Some g.reply))) place in
    let behind : Played = told_by s p client says (Some is.request) in
    let done : HasPlayed behind new = record {
      claims = claims;
      journal = journal;
      told = told;
      floors = λ other there. elim (cases_Bool (eqb client other)) [
        | inl own ↦
            let same : client ≡ other = eqb-true client other own in
            subst (λ (c : ℕ). floor_at new.floors c ≡ floor_of c behind.given) same
            (set_floor old.floors new.floors client
            (stamp (length new.desk.journal) new.desk.claims) is.floors (omega (arith, lt, all))
            ∙ floor_is s p client is.request new.desk.journal new.desk.claims journal claims
            ∙ sym (floor_next s p client says is.request))
        | inr apart ↦
            kept_floor old.floors new.floors client other
            (stamp (length new.desk.journal) new.desk.claims) is.floors apart
            ∙ has.floors other there
            ∙ sym (floor_same s p client other says (Some is.request) apart)
      ];
    } in
    subst (λ (o : Option Request). HasPlayed (told_by s p client says o) new) (sym is.asks) done

all_kept : (old new : Floors) (client : ℕ) (place : Stamp)
    → new.places.items ≡ slice_set old.places.items client place → AreAll old → AreAll new
all_kept old new client place floors all =
    ap length floors ∙ length-set old.places.items client place ∙ all

pub by_book : (client : ℕ) (ask : ClientAsk) (old new : Run) → client < CLIENTS → AreAll old.floors
    → IsByBook client ask old new → HasAsked client ask old new
by_book client ask old new lt all is = record {
  run = λ s run.
      let calls = book_journal old.desk.setup old.desk.journal new.desk.journal client is.request
      is.reply is.place old.desk.claims is.asked is.at in
      asked_run s old new client is.request run is.own is.setup is.same
      (calls ∙ ap (λ (x : SetupParts). old.desk.journal ++ option_to_list
      (call_of x old.desk.journal client old.desk.claims is.request
      (reply_of x old.desk.journal old.desk.claims is.request))) run.setup)
      (told_one old.replies new.replies client is.place is.said is.told
      (omega (
        arith,
        is.few,
        is.asked.calls,
        ap length is.asked.journal,
        length-append old.desk.journal
            (option_to_list (call_of old.desk.setup old.desk.journal client is.place.claims
            is.request
            is.reply)),
      )) is.short run.held)
      (all_kept old.floors new.floors client (stamp (length new.desk.journal) new.desk.claims)
      is.floors all);
  does = λ s p checked setup has. subst
      (λ (x : SetupParts). HasPlayed (play_step x p (Ask client ask)) new) setup
      (book_played client ask old new p lt all is has);
}

-- ---- where it was not

-- the ask has no request for the book: the client is told what is said without it, at the place
-- from which it goes on
pub record IsWithout (client : ℕ) (ask : ClientAsk) (old new : Run) : Type 0 where
  pub said : Said
  pub asks : asked_by old.desk.setup.device ask ≡ None
  pub says : says_by old.desk.setup.device ask None ≡ Some said
  pub own : new.setup ≡ old.setup
  pub desk : new.desk ≡ old.desk
  pub told : new.replies ≡ old.replies ++ reply_item client (floor_at old.floors client) said ∷ []
  pub few : (floor_at old.floors client).calls < 256 ^ 8
  pub short : IsShort said
  pub floors : new.floors ≡ old.floors

without_played : (client : ℕ) (ask : ClientAsk) (old new : Run) (p : Played) → client < CLIENTS
    → IsWithout client ask old new → HasPlayed p old
    → HasPlayed (play_step old.desk.setup p (Ask client ask)) new
without_played client ask old new p lt is has =
    let s = old.desk.setup in
    let says = says_by s.device ask in
    let told : new.replies ≡ p.told ++ told_at client (floor_of client p.given) (says None) =
    is.told ∙ ap (λ (xs : List ReplyItem). xs ++ reply_item client
    (floor_at old.floors client) is.said ∷ []) has.told
    ∙ ap (λ (place : Stamp). p.told ++ reply_item client place is.said ∷ []) (has.floors client lt)
    ∙ ap (λ (o : Option Said). p.told ++ told_at client (floor_of client p.given) o)
    (sym is.says) in
    let done : HasPlayed (told_by s p client says None) new = record {
      claims = ap (λ (d : DeskParts). d.claims) is.desk ∙ has.claims;
      journal = ap (λ (d : DeskParts). d.journal) is.desk ∙ has.journal;
      told = told;
      floors = λ other there. ap (λ (c : Floors). floor_at c other) is.floors
          ∙ has.floors other there;
    } in
    subst (λ (o : Option Request). HasPlayed (told_by s p client says o) new) (sym is.asks) done

pub without_book : (client : ℕ) (ask : ClientAsk) (old new : Run) → client < CLIENTS
    → AreAll old.floors → IsWithout client ask old new → HasAsked client ask old new
without_book client ask old new lt all is = record {
  run = λ s run.
      told_run s old new run is.own is.desk
      (told_one old.replies new.replies client (floor_at old.floors client) is.said is.told is.few
      is.short run.held) (subst AreAll (sym is.floors) all);
  does = λ s p checked setup has. subst
      (λ (x : SetupParts). HasPlayed (play_step x p (Ask client ask)) new) setup
      (without_played client ask old new p lt is has);
}

-- ---- what clients ask

-- a plain request
pub plain_asked : (client : ℕ) (request : Request) (reply : Reply) (place : Stamp) (old new : Run)
    → client < CLIENTS → AreAll old.floors
    → IsAsked old.desk.setup old.desk.journal new.desk.journal client request reply place
    → place.claims ≡ old.desk.claims → new.desk.setup ≡ old.desk.setup
    → old.desk.claims ≡ new.desk.claims
    → new.replies ≡ old.replies ++ reply_item client place (Plain reply) ∷ []
    → length new.desk.journal < 256 ^ 8
    → new.floors.places.items ≡ slice_set old.floors.places.items client
    (stamp (length new.desk.journal) new.desk.claims) → new.setup ≡ old.setup
    → HasAsked client (Asked request) old new
plain_asked client request reply place old new lt all asked at setup same told few floors
    own = by_book client (Asked request) old new lt all (record {
      request = request;
      reply = reply;
      place = place;
      said = Plain reply;
      asks = refl;
      says = refl;
      asked = asked;
      at = at;
      setup = setup;
      same = sym same;
      told = told;
      few = few;
      short = tt;
      floors = floors;
      own = own;
    })

-- what keeps a desk's claims, or the desk
kept_claims : (old new : DeskParts) → (new ≡ old) ⊎ (old.claims ≡ new.claims)
    → new.claims ≡ old.claims
kept_claims old new (inl same) = ap (λ (d : DeskParts). d.claims) same
kept_claims old new (inr same) = sym same

-- a whole request of a stream, by the book
pub http_asked : (client : ℕ) (http : HttpRequest) (d : DeviceParts) (answered : Answered)
    (place : Stamp) (said : Said) (before response : List ℕ) (old new : Run) → client < CLIENTS
    → AreAll old.floors
    → d ≡ old.desk.setup.device → before ≡ [] → answered ≡ At place
    → IsServed d http old.desk.setup client old.desk.journal new.desk.journal
    (counts_claims old.desk.claims) before response answered → new.desk.setup ≡ old.desk.setup
    → (new.desk ≡ old.desk) ⊎ (old.desk.claims ≡ new.desk.claims)
    → said ≡ Http response → IsShort said
    → new.replies ≡ old.replies ++ reply_item client place said ∷ []
    → length new.desk.journal < 256 ^ 8
    → new.floors.places.items ≡ slice_set old.floors.places.items client
    (stamp (length new.desk.journal) new.desk.claims) → new.setup ≡ old.setup
    → HasAsked client (Whole http) old new
http_asked client http d answered place said before response old new lt all device none is served
    setup keeps said_is short told few floors own =
    let by : IsServed d http old.desk.setup client old.desk.journal new.desk.journal
    (counts_claims old.desk.claims) before response (At place) =
    subst (IsServed d http old.desk.setup client old.desk.journal new.desk.journal
    (counts_claims old.desk.claims) before response) is served in
    let written = by.2 in
    let text : response ≡ response_of d http (Some written.reply) =
    written.written ∙ ap (λ (xs : List ℕ). xs ++ response_of d http (Some written.reply)) none in
    by_book client (Whole http) old new lt all (record {
      request = by.0;
      reply = written.reply;
      place = place;
      said = said;
      asks = ap (λ (x : DeviceParts). request_asked x http) (sym device) ∙ by.1;
      says = ap (λ (x : DeviceParts). Some (Http (response_of x http (Some written.reply))))
          (sym device) ∙ ap (λ (bytes : List ℕ). Some (Http bytes)) (sym text)
          ∙ ap Some (sym said_is);
      asked = written.asked;
      at = written.told;
      setup = setup;
      same = kept_claims old.desk new.desk keeps;
      told = told;
      few = few;
      short = short;
      floors = floors;
      own = own;
    })

still_told : (P : Type 0) (answered : Answered) → answered ≡ Still → OnStill answered P → P
still_told P answered is told = let at : OnStill Still P =
    subst (λ (x : Answered). OnStill x P) is told in at

-- and without it
pub http_fixed : (client : ℕ) (http : HttpRequest) (d : DeviceParts) (answered : Answered)
    (floor : Stamp) (said : Said) (before response : List ℕ) (old new : Run) → client < CLIENTS
    → AreAll old.floors
    → d ≡ old.desk.setup.device → before ≡ [] → answered ≡ Still
    → IsServed d http old.desk.setup client old.desk.journal new.desk.journal
    (counts_claims old.desk.claims) before response answered → OnStill answered (new.desk ≡ old.desk)
    → said ≡ Http response → IsShort said
    → floor ≡ floor_at old.floors client → floor.calls < 256 ^ 8
    → new.replies ≡ old.replies ++ reply_item client floor said ∷ []
    → new.floors ≡ old.floors → new.setup ≡ old.setup
    → HasAsked client (Whole http) old new
http_fixed client http d answered floor said before response old new lt all device none is served
    desk said_is short floor_is few told floors own =
    let by : IsServed d http old.desk.setup client old.desk.journal new.desk.journal
    (counts_claims old.desk.claims) before response Still =
    subst (IsServed d http old.desk.setup client old.desk.journal new.desk.journal
    (counts_claims old.desk.claims) before response) is served in
    let text : response ≡ response_of d http None =
    by.2 ∙ ap (λ (xs : List ℕ). xs ++ response_of d http None) none in
    without_book client (Whole http) old new lt all (record {
      said = said;
      asks = ap (λ (x : DeviceParts). request_asked x http) (sym device) ∙ by.0;
      says = ap (λ (x : DeviceParts). Some (Http (response_of x http None))) (sym device)
          ∙ ap (λ (bytes : List ℕ). Some (Http bytes)) (sym text) ∙ ap Some (sym said_is);
      desk = still_told (new.desk ≡ old.desk) answered is desk;
      told = told ∙ ap (λ (place : Stamp). old.replies ++ reply_item client place said ∷ [])
          floor_is;
      few = subst (λ (place : Stamp). place.calls < 256 ^ 8) floor_is few;
      short = short;
      floors = floors;
      own = own;
    })

-- a stream that is refused
pub refused_fixed : (client status : ℕ) (floor : Stamp) (said : Said) (response : List ℕ)
    (old new : Run) → client < CLIENTS → AreAll old.floors → response ≡ stream_response status
    → new.desk ≡ old.desk
    → said ≡ Http response → IsShort said → floor ≡ floor_at old.floors client
    → floor.calls < 256 ^ 8 → new.replies ≡ old.replies ++ reply_item client floor said ∷ []
    → new.floors ≡ old.floors → new.setup ≡ old.setup
    → HasAsked client (Refused status) old new
refused_fixed client status floor said response old new lt all text desk said_is short
    floor_is few told floors own =
    without_book client (Refused status) old new lt all (record {
      said = said;
      asks = refl;
      says = ap (λ (bytes : List ℕ). Some (Http bytes)) (sym text) ∙ ap Some (sym said_is);
      desk = desk;
      told = told ∙ ap (λ (place : Stamp). old.replies ++ reply_item client place said ∷ [])
          floor_is;
      few = subst (λ (place : Stamp). place.calls < 256 ^ 8) floor_is few;
      short = short;
      floors = floors;
      own = own;
    })
