-- Heads in the held bytes and in their window.
use Rattle.std.proofs.Common.{◌≡◌, ℕ, zero, suc, ◌+◌, ◌-◌, ◌<◌, ◌≤◌, Bool, true, IsTrue}
use Rattle.std.proofs.Common.{false, ◌||◌, ◌==◌, List, [], ◌∷◌, ◌++◌, length}
use Rattle.std.proofs.Common.{take, drop, refl, sym, ap, ◌∙◌, subst, arith}
use Rattle.std.proofs.Common.{inl, inr, append_assoc, append-nil, take_all, take-append-drop, length-take, true≢false}
use Rattle.std.proofs.Math.Seq.{take-append-add, drop-append_seam}
use Rattle.std.proofs.lemmas.Bool.Decides.{nat_tests}
use Rattle.std.proofs.lemmas.List.{length-map, take-append-le}
use Rattle.std.proofs.lemmas.List.Elements.{All-head, All-tail}
use Rattle.std.specs.List.{list_any}
use Rattle.httparse.specs.Grammar.{is_token_byte, is_uri_byte, AllPass, LineEnd, crlf, lf, print_blank}
use Rattle.httparse.specs.Grammar.{RequestHead, ReadsRequest, HasNoRequest, MayBecomeRequest, EndsInTarget, print_request}
use Rattle.httparse.specs.Pieces.{is_newline, Stops}
use Rattle.httparse.specs.Spans.{IsRequestAt, IsRequestWithin, header_bytes, name_and_value}
use Rattle.httparse.specs.declared.spans.HeaderSpan.{HeaderSpan}
use Rattle.httparse.specs.declared.spans.RequestSpans.{RequestSpans}
use Rattle.httparse.proofs.GrammarLemmas.{ReadsRequest-append}
use Rattle.httparse.proofs.PieceLemmas.{Stops_token}
use Rattle.http_wire.specs.Head.{window, IsFit, IsDoubtful, IsHopeless, IsOpen, CanBecomeHead, IsRefusedHead, skip_newlines, has_line}
use Rattle.http_wire.specs.declared.status.TheConstants.{BAD_REQUEST, FIELDS_TOO_LARGE}
use Rattle.http_wire.specs.declared.limits.TheConstants.{MOST_HEAD, MOST_FIELDS}

pub window_short : (held : List ℕ) → length held < MOST_HEAD → window held ≡ held
window_short held h = take_all MOST_HEAD held (omega arith)

-- a fit head lies in the window
pub in_window : (held : List ℕ) (h : RequestHead) (rest : List ℕ) → IsFit held h rest → (r : List ℕ) × ReadsRequest (window held) h r
in_window held h rest fit =
    let p = print_request h in
    let n : ℕ = MOST_HEAD - length p in
    let size = fit.size in
    let whole : length p + n ≡ MOST_HEAD = omega arith in
    (take n rest, (fit.reads.0, ap window fit.reads.1 ∙ ap (λ (k : ℕ). take k (p ++ rest)) (sym whole) ∙ take-append-add p rest n))

-- what the parser reads in the window is a fit head
pub fit_at : (held : List ℕ) (headers : List HeaderSpan) (spans : RequestSpans) (h : RequestHead) → length headers ≡ MOST_FIELDS
    → IsRequestWithin (window held) headers spans → IsRequestAt (window held) headers spans h → IsFit held h (drop spans.len held)
fit_at held headers spans h room inside at =
    let p = print_request h in
    let more = drop spans.len (window held) ++ drop MOST_HEAD held in
    let reads : ReadsRequest held h more =
    subst (λ (s : List ℕ). ReadsRequest s h more) (take-append-drop MOST_HEAD held)
    (ReadsRequest-append (window held) h _ (drop MOST_HEAD held) at.reads) in
    let rest : drop spans.len held ≡ more = ap (λ (k : ℕ). drop k held) at.len ∙ ap (drop (length p)) reads.1 ∙ drop-append_seam p more in
    let read = length-map (take spans.headers headers) (header_bytes (window held)) in
    let count : length h.fields ≤ MOST_FIELDS = omega (
      arith,
      ap length at.fields,
      read,
      length-map h.fields name_and_value,
      length-take spans.headers headers,
      inside.section.count_fits,
    ) in
    let len_fits = inside.section.len_fits in
    let size : length p ≤ MOST_HEAD = omega (arith, at.len, length-take MOST_HEAD held) in
    record { reads = rw rest reads; fields = count; size = size }

-- no bytes after them make a fit head
pub doubtful : (held : List ℕ) → IsHopeless (window held) → IsDoubtful held
doubtful held over more b =
    let split : window held ++ (drop MOST_HEAD held ++ more) ≡ held ++ more =
    sym (append_assoc (window held) (drop MOST_HEAD held) more) ∙ ap (λ (s : List ℕ). s ++ more) (take-append-drop MOST_HEAD held) in
    let reads = subst (λ (s : List ℕ). ReadsRequest s b.0 b.1) (sym split) b.2.reads in
    let many = over (drop MOST_HEAD held ++ more) b.0 b.1 reads in
    let few = b.2.fields in
    absurd (omega arith)

take_front : (n : ℕ) (held more : List ℕ) → (later : List ℕ) × (take n (held ++ more) ≡ take n held ++ later)
take_front zero held more = ([], refl)
take_front (suc n) [] more = (take (suc n) more, refl)
take_front (suc n) (b ∷ held) more =
    let front = take_front n held more in
    (front.0, ap (λ (s : List ℕ). b ∷ s) front.1)

-- more bytes give no hope
pub hopeless_append : (held more : List ℕ) → IsHopeless (window held) → IsHopeless (window (held ++ more))
hopeless_append held more none later h rest reads =
    let front = take_front MOST_HEAD held more in
    let text = ap (λ (s : List ℕ). s ++ later) front.1 ∙ append_assoc (window held) front.0 later in
    none (front.0 ++ later) h rest (subst (λ (s : List ℕ). ReadsRequest s h rest) text reads)

-- as many bytes as a head has at most, and no head
large_doubtful : (held : List ℕ) → MOST_HEAD ≤ length held → HasNoRequest (window held) → IsDoubtful held
large_doubtful held many none more b =
    let found = in_window (held ++ more) b.0 b.1 b.2 in
    none b.0 found.0 (subst (λ (s : List ℕ). ReadsRequest s b.0 found.0) (take-append-le MOST_HEAD held more many) found.1)

pub refused_doubtful : (held : List ℕ) (status : ℕ) → IsRefusedHead held status → IsDoubtful held
refused_doubtful held status (inl bad) = doubtful held bad.1
refused_doubtful held status (inr large) = large_doubtful held large.1 large.2.0

-- what both statuses tell of bytes that have a line
pub told_apart : (held : List ℕ) → IsTrue (has_line (window held)) → IsRefusedHead held BAD_REQUEST → IsRefusedHead held FIELDS_TOO_LARGE
    → CanBecomeHead (window held) × IsHopeless (window held)
told_apart held line (inr large) second = absurd (omega (arith, large.0))
told_apart held line (inl bad) (inl other) = absurd (omega (arith, other.0))
told_apart held line (inl bad) (inr large) = (large.2.1 line, bad.1)

-- ---- a target that goes on has no line

pub neither : (b : ℕ) (rest : Bool) → (b ≡ 10 → ⊥) → rest ≡ false → ((b == 10) || rest) ≡ false
neither b rest other e = rw e (grind (arith, nat_tests, other))

pub no_line_feed : (test : ℕ → Bool) → test 10 ≡ false → (bytes more : List ℕ) → AllPass test bytes → list_any (λ b. b == 10) more ≡ false
    → list_any (λ b. b == 10) (bytes ++ more) ≡ false
no_line_feed test apart [] more each e = e
no_line_feed test apart (b ∷ bytes) more each e =
    neither b _ (λ same. true≢false (sym (All-head (λ v. test v ≡ true) b bytes each) ∙ ap test same ∙ apart))
    (no_line_feed test apart bytes more (All-tail (λ v. test v ≡ true) b bytes each) e)

pub skip_blank : (ends : List LineEnd) (s : List ℕ) → skip_newlines (print_blank ends ++ s) ≡ skip_newlines s
skip_blank [] s = refl
skip_blank (crlf ∷ ends) s = skip_blank ends s
skip_blank (lf ∷ ends) s = skip_blank ends s

pub stopped : (s : List ℕ) → Stops is_newline s → skip_newlines s ≡ s
stopped [] h = refl
stopped (b ∷ s) h = rw h

pub no_line_feed_in_token : is_token_byte 10 ≡ false
unfolding is_token_byte
no_line_feed_in_token = refl

-- a method and a part of a target have no line feed
pub no_line : (held : List ℕ) → EndsInTarget held → has_line held ≡ false
no_line held t =
    let method = t.1 in
    let target = t.2 in
    let after = method ++ 32 ∷ target in
    let from : skip_newlines held ≡ after = ap skip_newlines (t.5 ∙ append_assoc (print_blank t.0) method (32 ∷ target)) ∙ skip_blank t.0 after
    ∙ stopped after (Stops_token method (32 ∷ target) t.3.0 t.3.1) in
    let in_target : list_any (λ b. b == 10) target ≡ false = ap (list_any (λ b. b == 10)) (sym (append-nil target))
    ∙ no_line_feed is_uri_byte refl target [] t.4 refl in
    ap (list_any (λ b. b == 10)) from ∙ no_line_feed is_token_byte no_line_feed_in_token method (32 ∷ target) t.3.1 in_target

-- ---- bytes to which more can come

pub open_of : (bytes : List ℕ) → HasNoRequest bytes → MayBecomeRequest bytes → IsOpen bytes
open_of bytes none (inl may) = (none, λ _. may)
open_of bytes none (inr ends) = (none, λ line. absurd (true≢false (sym line ∙ no_line bytes ends)))
