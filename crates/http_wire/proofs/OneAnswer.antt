-- Bytes have one list of answers.
use Rattle.std.proofs.Common.{◌≡◌, ℕ, ◌<◌, ◌⊎◌, Bool, true, false, List, [], ◌∷◌, ◌++◌, length}
use Rattle.std.proofs.Common.{take, drop, refl, sym, ap, ◌∙◌, subst, arith, inl, inr, append-nil}
use Rattle.std.proofs.Common.{length-append}
use Rattle.std.proofs.Math.Seq.{take-append_seam, drop-append_seam}
use Rattle.httparse.specs.Grammar.{RequestHead}
use Rattle.httparse.proofs.GrammarLemmas.{request_unique}
use Rattle.http_wire.specs.Head.{IsDoubtful, IsFit}
use Rattle.http_wire.specs.Request.{framing_in, request_in}
use Rattle.http_wire.specs.Stream.{Answer, AnswersAreOne, BeginsWith, GoesOn, IsAnswered, IsRefused}
use Rattle.http_wire.specs.Stream.{IsSettled, IsWaiting, PartAtDoubtful, Stand, ended, holds}
use Rattle.http_wire.specs.Stream.{refused, whole}
use Rattle.http_wire.specs.declared.fields.Framing.{Framing}
use Rattle.http_wire.specs.declared.fields.Framing.TheVariants as framing
use Rattle.http_wire.specs.declared.request.HttpRequest.{HttpRequest}
use Rattle.http_wire.proofs.HeadLemmas.{refused_doubtful}

-- ---- the head at the front of bytes, and its body

same_fit : (bytes : List ℕ) (h k : RequestHead) (r q : List ℕ) → IsFit bytes h r → IsFit bytes k q
    → (h ≡ k) × (r ≡ q)
same_fit bytes h k r q a b = request_unique bytes h k r q a.reads b.reads

same_framing : (h k : RequestHead) (f g : Framing) → h ≡ k → framing_in h ≡ f → framing_in k ≡ g
    → f ≡ g
same_framing h k f g same a b = sym a ∙ ap framing_in same ∙ b

body_is : (m n : ℕ) → framing.Body m ≡ framing.Body n → m ≡ n
body_is m n e = cc

no_body : (n status : ℕ) → framing.Body n ≡ framing.Refused status → ⊥
no_body n status e = cc

status_is : (m n : ℕ) → framing.Refused m ≡ framing.Refused n → m ≡ n
status_is m n e = cc

same_body : (body rest second other : List ℕ) → length body ≡ length second
    → body ++ rest ≡ second ++ other → (body ≡ second) × (rest ≡ other)
same_body body rest second other long e =
    let front : body ≡ second =
    sym (take-append_seam body rest) ∙ ap (λ (n : ℕ). take n (body ++ rest)) long
    ∙ ap (take (length second)) e ∙ take-append_seam second other in
    let back : rest ≡ other =
    sym (drop-append_seam body rest) ∙ ap (λ (n : ℕ). drop n (body ++ rest)) long
    ∙ ap (drop (length second)) e ∙ drop-append_seam second other in
    (front, back)

same_begin : (bytes : List ℕ) (x y : HttpRequest) (r q : List ℕ) → BeginsWith bytes x r
    → BeginsWith bytes y q → (x ≡ y) × (r ≡ q)
same_begin bytes x y r q a b =
    let heads = same_fit bytes a.head b.head (a.body ++ r) (b.body ++ q) a.fits b.fits in
    let long =
    body_is (length a.body) (length b.body)
    (same_framing a.head b.head _ _ heads.0 a.frames b.frames) in
    let parts = same_body a.body r b.body q long heads.1 in (
      a.request_is ∙ ap (λ (h : RequestHead). request_in h a.body) heads.0
          ∙ ap (request_in b.head) parts.0 ∙ sym b.request_is,
      parts.1,
    )

-- ---- what excludes what

waits_begins : (bytes : List ℕ) (request : HttpRequest) (rest : List ℕ) → IsWaiting bytes
    → BeginsWith bytes request rest → ⊥
waits_begins bytes request rest (inl awaited) b =
    awaited.1.0 b.head (b.body ++ rest) b.fits.reads
waits_begins bytes request rest (inr short) b =
    let heads = same_fit bytes short.0 b.head short.1 (b.body ++ rest) short.3 b.fits in
    let long =
    body_is short.2 (length b.body)
    (same_framing short.0 b.head _ _ heads.0 short.4 b.frames) in
    let few = short.5 in
    absurd (omega (arith, long, ap length heads.1, length-append b.body rest, few))

waits_refused : (bytes : List ℕ) (status : ℕ) → IsWaiting bytes → IsRefused bytes status
    → IsDoubtful bytes
waits_refused bytes status wait (inl head) = refused_doubtful bytes status head
waits_refused bytes status (inl awaited) (inr by) = absurd (awaited.1.0 by.0 by.1 by.2.reads)
waits_refused bytes status (inr short) (inr by) =
    let heads = same_fit bytes short.0 by.0 short.1 by.1 short.3 by.2 in
    absurd (no_body short.2 status (same_framing short.0 by.0 _ _ heads.0 short.4 by.3))

begins_refused : (bytes : List ℕ) (request : HttpRequest) (rest : List ℕ) (status : ℕ)
    → BeginsWith bytes request rest → IsRefused bytes status → ⊥
begins_refused bytes request rest status b (inl head) =
    refused_doubtful bytes status head [] (
      b.head,
      b.body ++ rest,
      subst (λ (s : List ℕ). IsFit s b.head (b.body ++ rest)) (sym (append-nil bytes)) b.fits,
    )
begins_refused bytes request rest status b (inr by) =
    let heads = same_fit bytes b.head by.0 (b.body ++ rest) by.1 b.fits by.2 in
    no_body (length b.body) status (same_framing b.head by.0 _ _ heads.0 b.frames by.3)

same_refusal : (bytes : List ℕ) (m n : ℕ) → IsRefused bytes m → IsRefused bytes n
    → (m ≡ n) ⊎ IsDoubtful bytes
same_refusal bytes m n (inl a) b = inr (refused_doubtful bytes m a)
same_refusal bytes m n (inr a) (inl b) = inr (refused_doubtful bytes n b)
same_refusal bytes m n (inr a) (inr b) =
    let heads = same_fit bytes a.0 b.0 a.1 b.1 a.2 b.2 in
    inl (status_is m n (same_framing a.0 b.0 _ _ heads.0 a.3 b.3))

-- ---- one list, or doubtful bytes

abbrev IsOne : List ℕ → List Answer → List Answer → Stand → Stand → Type 0
IsOne bytes xs ys s t = ((xs ≡ ys) × (s ≡ t)) ⊎ PartAtDoubtful bytes xs ys

at_once : (bytes : List ℕ) (xs ys : List Answer) → IsDoubtful bytes → PartAtDoubtful bytes xs ys
at_once bytes xs ys doubtful = record {
  front = [];
  rest = bytes;
  answered = refl;
  doubtful = doubtful;
  more = xs;
  other = ys;
  first = refl;
  second = refl;
}

behind : (bytes : List ℕ) (request : HttpRequest) (rest : List ℕ) (xs ys : List Answer)
    → BeginsWith bytes request rest → request.closes ≡ false → PartAtDoubtful rest xs ys
    → PartAtDoubtful bytes (whole request ∷ xs) (whole request ∷ ys)
behind bytes request rest xs ys begins stays p = record {
  front = whole request ∷ p.front;
  rest = p.rest;
  answered = (
    rest,
    begins,
    subst (λ (c : Bool). GoesOn c (IsAnswered rest p.front (holds p.rest)) p.front (holds p.rest))
        (sym stays) p.answered,
  );
  doubtful = p.doubtful;
  more = p.more;
  other = p.other;
  first = ap (λ (zs : List Answer). whole request ∷ zs) p.first;
  second = ap (λ (zs : List Answer). whole request ∷ zs) p.second;
}

next : (bytes : List ℕ) (request : HttpRequest) (rest : List ℕ) (xs ys : List Answer) (s t : Stand)
    → BeginsWith bytes request rest → request.closes ≡ false → IsOne rest xs ys s t
    → IsOne bytes (whole request ∷ xs) (whole request ∷ ys) s t
next bytes request rest xs ys s t begins stays (inl same) =
    inl (ap (λ (zs : List Answer). whole request ∷ zs) same.0, same.1)
next bytes request rest xs ys s t begins stays (inr parts) =
    inr (behind bytes request rest xs ys begins stays parts)

both_whole : (closes : Bool) (bytes : List ℕ) (request : HttpRequest) (rest : List ℕ)
    (xs ys : List Answer) (s t : Stand) → request.closes ≡ closes → BeginsWith bytes request rest
    → GoesOn closes (IsAnswered rest xs s) xs s → GoesOn closes (IsAnswered rest ys t) ys t
    → (IsAnswered rest xs s → IsAnswered rest ys t → IsOne rest xs ys s t)
    → IsOne bytes (whole request ∷ xs) (whole request ∷ ys) s t
both_whole true bytes request rest xs ys s t is begins a b go =
    inl (ap (λ (zs : List Answer). whole request ∷ zs) (a.0 ∙ sym b.0), a.1 ∙ sym b.1)
both_whole false bytes request rest xs ys s t is begins a b go =
    next bytes request rest xs ys s t begins is (go a b)

both_refused : (bytes : List ℕ) (m n : ℕ) (xs ys : List Answer) (s t : Stand) → xs ≡ [] → ys ≡ []
    → s ≡ ended → t ≡ ended → (m ≡ n) ⊎ IsDoubtful bytes
    → IsOne bytes (refused m ∷ xs) (refused n ∷ ys) s t
both_refused bytes m n xs ys s t a b c d (inl same) =
    inl (
      ap (λ (zs : List Answer). refused m ∷ zs) (a ∙ sym b)
          ∙ ap (λ (k : ℕ). refused k ∷ ys) same,
      c ∙ sym d,
    )
both_refused bytes m n xs ys s t a b c d (inr doubtful) =
    inr (at_once bytes (refused m ∷ xs) (refused n ∷ ys) doubtful)

waiting : (bytes : List ℕ) (s : Stand) → s ≡ holds bytes → IsSettled s → IsWaiting bytes
waiting bytes s is settled = subst IsSettled is settled

pub one : (xs ys : List Answer) (bytes : List ℕ) (s t : Stand) → IsAnswered bytes xs s → IsSettled s
    → IsAnswered bytes ys t → IsSettled t → IsOne bytes xs ys s t
one [] [] bytes s t a u b v = inl (refl, a ∙ sym b)
one [] (whole y ∷ ys) bytes s t a u b v =
    absurd (waits_begins bytes y b.0 (waiting bytes s a u) b.1)
one [] (refused n ∷ ys) bytes s t a u b v =
    inr (at_once bytes [] (refused n ∷ ys) (waits_refused bytes n (waiting bytes s a u) b.0))
one (whole x ∷ xs) [] bytes s t a u b v =
    absurd (waits_begins bytes x a.0 (waiting bytes t b v) a.1)
one (refused m ∷ xs) [] bytes s t a u b v =
    inr (at_once bytes (refused m ∷ xs) [] (waits_refused bytes m (waiting bytes t b v) a.0))
one (whole x ∷ xs) (refused n ∷ ys) bytes s t a u b v =
    absurd (begins_refused bytes x a.0 n a.1 b.0)
one (refused m ∷ xs) (whole y ∷ ys) bytes s t a u b v =
    absurd (begins_refused bytes y b.0 m b.1 a.0)
one (refused m ∷ xs) (refused n ∷ ys) bytes s t a u b v =
    both_refused bytes m n xs ys s t a.1 b.1 a.2 b.2 (same_refusal bytes m n a.0 b.0)
one (whole x ∷ xs) (whole y ∷ ys) bytes s t a u b v =
    let same = same_begin bytes x y a.0 b.0 a.1 b.1 in
    let other : GoesOn x.closes (IsAnswered a.0 ys t) ys t =
    subst (λ (q : List ℕ). GoesOn x.closes (IsAnswered q ys t) ys t) (sym same.1)
    (subst (λ (r : HttpRequest). GoesOn r.closes (IsAnswered b.0 ys t) ys t) (sym same.0) b.2) in
    subst (λ (r : HttpRequest). IsOne bytes (whole x ∷ xs) (whole r ∷ ys) s t) same.0
    (both_whole x.closes bytes x a.0 xs ys s t refl a.1 a.2 other
    (λ p q. one xs ys a.0 s t p u q v))
