-- The pieces in which a stream came do not matter.
use Rattle.std.proofs.Common.{◌≡◌, ℕ, Bool, true, false, List, [], ◌∷◌, ◌++◌, refl, sym, ap}
use Rattle.std.proofs.Common.{subst, arith, append_assoc, append-nil, inl, inr, length-append, if◌then◌else◌, Result, Ok, Err, OnOk}
use Rattle.std.proofs.lemmas.List.{take-append-le}
use Rattle.httparse.specs.Grammar.{RequestHead}
use Rattle.httparse.proofs.GrammarLemmas.{ReadsRequest-append}
use Rattle.http_wire.specs.Head.{window, IsFit, IsOpen}
use Rattle.http_wire.specs.Stream.{BeginsWith, IsRefused, IsShort, Stand, holds, ended, fed, Steps}
use Rattle.http_wire.specs.Stream.{Answer, whole, refused, answers_of, GoesOn, IsAnswered, FeedsOn, AnswersOn}
use Rattle.http_wire.specs.declared.limits.TheConstants.{MOST_HEAD}
use Rattle.http_wire.specs.declared.request.HttpRequest.{HttpRequest}
use Rattle.http_wire.specs.declared.stream.Next.{Next}
use Rattle.http_wire.specs.declared.stream.Next.TheVariants as next
use Rattle.http_wire.proofs.HeadLemmas.{hopeless_append}

-- ---- more bytes change no answer that was given

pub fit_append : (bytes : List ℕ) (h : RequestHead) (rest more : List ℕ) → IsFit bytes h rest → IsFit (bytes ++ more) h (rest ++ more)
fit_append bytes h rest more fit = record { reads = ReadsRequest-append bytes h rest more fit.reads; fields = fit.fields; size = fit.size }

begins_append : (bytes : List ℕ) (request : HttpRequest) (rest more : List ℕ) → BeginsWith bytes request rest
    → BeginsWith (bytes ++ more) request (rest ++ more)
begins_append bytes request rest more b = record {
  head = b.head;
  body = b.body;
  fits = subst (λ (s : List ℕ). IsFit (bytes ++ more) b.head s) (append_assoc b.body rest more) (fit_append bytes b.head (b.body ++ rest) more b.fits);
  frames = b.frames;
  request_is = b.request_is;
}

refused_append : (bytes more : List ℕ) (status : ℕ) → IsRefused bytes status → IsRefused (bytes ++ more) status
refused_append bytes more status (inr by) = inr (by.0, by.1 ++ more, fit_append bytes by.0 by.1 more by.2, by.3)
refused_append bytes more status (inl (inl bad)) = inl (inl (bad.0, hopeless_append bytes more bad.1))
refused_append bytes more status (inl (inr large)) =
    let same : window (bytes ++ more) ≡ window bytes = take-append-le MOST_HEAD bytes more large.1 in
    inl (inr (large.0, omega (arith, large.1, length-append bytes more), subst IsOpen (sym same) large.2))

goes_on_append : (closes : Bool) (answers : List Answer) (rest more : List ℕ) (stand : Stand)
    → (IsAnswered rest answers stand → IsAnswered (rest ++ more) answers (fed stand more))
    → GoesOn closes (IsAnswered rest answers stand) answers stand
    → GoesOn closes (IsAnswered (rest ++ more) answers (fed stand more)) answers (fed stand more)
goes_on_append true answers rest more stand go last = (last.0, ap (λ s. fed s more) last.1)
goes_on_append false answers rest more stand go later = go later

-- the answers given stay those of the stream when more bytes come
pub answered_fed : (bytes : List ℕ) (answers : List Answer) (stand : Stand) (more : List ℕ) → IsAnswered bytes answers stand
    → IsAnswered (bytes ++ more) answers (fed stand more)
answered_fed bytes [] stand more e = ap (λ s. fed s more) e
answered_fed bytes (whole request ∷ answers) stand more a =
    (a.0 ++ more, begins_append bytes request a.0 more a.1, goes_on_append request.closes answers a.0 more stand (answered_fed a.0 answers stand more) a.2)
answered_fed bytes (refused status ∷ answers) stand more a = (refused_append bytes more status a.0, a.1, ap (λ s. fed s more) a.2)

pub feeds_on : (old : Stand) (piece : List ℕ) (new : Stand) → new ≡ fed old piece → FeedsOn old piece new
feeds_on old piece new e = λ bytes answers a. rw e (answered_fed bytes answers old piece a)

pub feeds_on_ok : {A E : Type 0} (result : Result A E) (old : Stand) (piece : List ℕ) (new : Stand) → OnOk result (new ≡ fed old piece)
    → OnOk result (FeedsOn old piece new)
feeds_on_ok (Ok v) old piece new e = feeds_on old piece new e
feeds_on_ok (Err e) old piece new u = u

-- ---- one more answer

ended_holds : (bytes : List ℕ) → ended ≡ holds bytes → ⊥
ended_holds bytes e = cc

held_is : (held bytes : List ℕ) → holds held ≡ holds bytes → held ≡ bytes
held_is held bytes e = cc

goes_on_push : (closes : Bool) (answers : List Answer) (rest held : List ℕ) (answer : Answer) (stand : Stand)
    → (IsAnswered rest answers (holds held) → IsAnswered rest (answers ++ answer ∷ []) stand)
    → GoesOn closes (IsAnswered rest answers (holds held)) answers (holds held)
    → GoesOn closes (IsAnswered rest (answers ++ answer ∷ []) stand) (answers ++ answer ∷ []) stand
goes_on_push true answers rest held answer stand go last = absurd (ended_holds held (sym last.1))
goes_on_push false answers rest held answer stand go later = go later

answered_push : (bytes : List ℕ) (answers : List Answer) (held : List ℕ) (answer : Answer) (stand : Stand)
    → IsAnswered bytes answers (holds held) → IsAnswered held (answer ∷ []) stand → IsAnswered bytes (answers ++ answer ∷ []) stand
answered_push bytes [] held answer stand a step = subst (λ s. IsAnswered s (answer ∷ []) stand) (held_is held bytes a) step
answered_push bytes (whole request ∷ answers) held answer stand a step =
    (a.0, a.1, goes_on_push request.closes answers a.0 held answer stand (λ b. answered_push a.0 answers held answer stand b step) a.2)
answered_push bytes (refused status ∷ answers) held answer stand a step = absurd (ended_holds held (sym a.2))

behind_alone : (closes : Bool) (rest : List ℕ) (stand : Stand) → stand ≡ (if closes then ended else holds rest)
    → GoesOn closes (IsAnswered rest [] stand) [] stand
behind_alone true rest stand e = (refl, e)
behind_alone false rest stand e = e

same_answers : (bytes : List ℕ) (answers : List Answer) (old new : Stand) → IsAnswered bytes answers old → new ≡ old
    → IsAnswered bytes (answers ++ []) new
same_answers bytes answers old new a e = rw (e, append-nil answers) a

-- a step gives the next answer to all the bytes
pub answered_next : (bytes : List ℕ) (answers : List Answer) (old : Stand) (found : Next) (new : Stand)
    → IsAnswered bytes answers old → Steps old found new → IsAnswered bytes (answers ++ answers_of found) new
answered_next bytes answers (holds held) next.Need new a step = same_answers bytes answers (holds held) new a step.1
answered_next bytes answers (holds held) (next.Request request) new a step =
    answered_push bytes answers held (whole request) new a (step.0, step.1, behind_alone request.closes step.0 new step.2)
answered_next bytes answers (holds held) (next.Bad status) new a step = answered_push bytes answers held (refused status) new a (step.0, refl, step.1)
answered_next bytes answers (holds held) next.Ended new a step = absurd step
answered_next bytes answers ended next.Need new a step = absurd step
answered_next bytes answers ended (next.Request request) new a step = absurd step
answered_next bytes answers ended (next.Bad status) new a step = absurd step
answered_next bytes answers ended next.Ended new a step = same_answers bytes answers ended new a step

pub answers_on : (old : Stand) (found : Next) (new : Stand) → Steps old found new → AnswersOn old found new
answers_on old found new step = λ bytes answers a. answered_next bytes answers old found new a step

-- ---- the steps of the code

pub refuses : (closed : Bool) (held : List ℕ) (old : Stand) (status : ℕ) → closed ≡ false → (if closed then ended else holds held) ≡ old
    → IsRefused held status → Steps old (next.Bad status) ended
refuses closed held old status going view by = rw (← view, going) (by, refl)

pub waits : (closed : Bool) (held : List ℕ) (old : Stand) → closed ≡ false → (if closed then ended else holds held) ≡ old
    → IsShort held → Steps old next.Need (if closed then ended else holds held)
waits closed held old going view short = rw (← view, going) (inr short, refl)
