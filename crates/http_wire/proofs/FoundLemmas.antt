-- What is found at the front of the bytes, and more bytes after it.
use Rattle.std.proofs.Common.{◌≡◌, ℕ, ◌+◌, ◌-◌, ◌<◌, ◌≤◌, List, ◌++◌, length, take, drop}
use Rattle.std.proofs.Common.{slice_range, sym, ap, ◌∙◌, subst, arith, take-append-drop, length-take, length-drop, length-append}
use Rattle.std.proofs.lemmas.List.{drop-append-le, take-append-le}
use Rattle.httparse.specs.Grammar.{RequestHead}
use Rattle.httparse.specs.Spans.{IsRequestAt, IsRequestWithin}
use Rattle.httparse.specs.declared.spans.HeaderSpan.{HeaderSpan}
use Rattle.httparse.specs.declared.spans.RequestSpans.{RequestSpans}
use Rattle.http_wire.specs.Head.{window, IsFit}
use Rattle.http_wire.specs.Stream.{BeginsWith, IsShort}
use Rattle.http_wire.specs.Found.{IsOfHead, HasPath, BeginsWithHead, HasHead}
use Rattle.http_wire.specs.declared.fields.Framing.TheVariants.{Body}
use Rattle.http_wire.specs.declared.head.Head.{Head}
use Rattle.http_wire.specs.declared.limits.TheConstants.{MOST_HEAD, MOST_FIELDS}
use Rattle.http_wire.proofs.HeadLemmas.{fit_at}
use Rattle.http_wire.proofs.RunLemmas.{fit_append}
use Rattle.http_wire.proofs.FieldLemmas.{cut_body, same_request}

part_append : (front more : List ℕ) (start end : ℕ) → start ≤ end → end ≤ length front
    → slice_range (front ++ more) start end ≡ slice_range front start end
part_append front more start end ordered within =
    ap (take (end - start)) (drop-append-le start front more (omega arith))
    ∙ take-append-le (end - start) (drop start front) more (omega (arith, length-drop start front))

path_append : (front more : List ℕ) (h : RequestHead) (head : Head) → head.len ≤ length front → HasPath front h head → HasPath (front ++ more) h head
path_append front more h head within path = record {
  within = path.within;
  path = part_append front more head.path.start head.path.end path.within.0 (omega (arith, path.within, within)) ∙ path.path;
}

-- a head that was found is there still when more bytes come
pub has_head_append : (bytes : List ℕ) (head : Head) (more : List ℕ) → HasHead bytes head → HasHead (bytes ++ more) head
has_head_append bytes head more found =
    let h = found.0 in
    let b = found.1 in (
      h,
      record {
        fit = subst (λ (s : List ℕ). IsFit (bytes ++ more) h s) (sym (drop-append-le head.len bytes more b.within))
            (fit_append bytes h (drop head.len bytes) more b.fit);
        within = omega (arith, b.within, length-append bytes more);
        is = b.is;
        path = path_append bytes more h head b.within b.path;
      },
    )

-- the path lies in the window, so it is that of all the bytes
path_in_front : (bytes : List ℕ) (h : RequestHead) (head : Head) → head.len ≤ length (window bytes) → HasPath (window bytes) h head
    → HasPath bytes h head
path_in_front bytes h head within path =
    subst (λ (s : List ℕ). HasPath s h head) (take-append-drop MOST_HEAD bytes) (path_append (window bytes) (drop MOST_HEAD bytes) h head within path)

pub begins_with_head : (bytes : List ℕ) (headers : List HeaderSpan) (spans : RequestSpans) (h : RequestHead) (head : Head) → length headers ≡ MOST_FIELDS
    → IsRequestWithin (window bytes) headers spans → IsRequestAt (window bytes) headers spans h → head.len ≡ spans.len
    → IsOfHead h head → HasPath (window bytes) h head → HasHead bytes head
begins_with_head bytes headers spans h head room inside at len is path =
    let fit = fit_at bytes headers spans h room inside at in
    let fits = inside.section.len_fits in
    let long : length (window bytes) ≤ length bytes = omega (arith, length-take MOST_HEAD bytes) in (
      h,
      record {
        fit = rw len fit;
        within = rw len (omega (arith, long, fits));
        is = is;
        path = path_in_front bytes h head (rw len fits) path;
      },
    )

-- the request of a head whose body is whole
pub begins_with : (bytes : List ℕ) (h : RequestHead) (head : Head) (path body : List ℕ) → BeginsWithHead bytes h head
    → head.len + head.body ≤ length bytes
    → path ≡ slice_range bytes head.path.start head.path.end → body ≡ slice_range bytes head.len (head.len + head.body)
    → BeginsWith bytes (record { method = head.method; path = path; body = body; closes = head.closes }) (drop (head.len + head.body) bytes)
begins_with bytes h head path body b within path_is body_is =
    let cut = cut_body bytes body head.len head.body body_is within in
    record {
      head = h;
      body = body;
      fits = rw cut.0 b.fit;
      frames = b.is.frames ∙ sym (ap Body cut.1);
      request_is = same_request _ _ _ _ body _ _ b.is.method (path_is ∙ b.path.path) b.is.closes;
    }

-- a head whose body is not whole
pub is_short : (bytes : List ℕ) (head : Head) → HasHead bytes head → length bytes - head.len < head.body → IsShort bytes
is_short bytes head found missing =
    (found.0, drop head.len bytes, head.body, found.1.fit, found.1.is.frames, omega (arith, missing, length-drop head.len bytes))
