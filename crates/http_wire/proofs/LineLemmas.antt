-- A head that goes on: its whole lines, and the open line after them.
use Rattle.std.proofs.Common.{◌≡◌, ℕ, true, List, [], ◌∷◌, ◌++◌, length, take, IsTrue, sym, ap, ◌∙◌, subst, arith}
use Rattle.std.proofs.Common.{append_assoc, append-nil, length-append, drop, take-append-drop}
use Rattle.std.proofs.lemmas.Grind.{flat_map-append}
use Rattle.std.proofs.lemmas.List.Elements.{All-push}
use Rattle.std.specs.List.{flat_map}
use Rattle.httparse.specs.Grammar.{is_value_byte, AllPass, IsToken, LineEnd, crlf, lf, print_end, print_blank, print_version, Field, print_field, IsField}
use Rattle.httparse.specs.Grammar.{RequestHead, IsRequestHead, print_request, ReadsRequest, HasNoRequest}
use Rattle.httparse.proofs.GrammarLemmas.{cons-append, print_request-append, request_unique, ReadsRequest-append}
use Rattle.http_wire.specs.Head.{IsOpen}
use Rattle.http_wire.specs.Line.{lines_text, IsPart, HasPart, Extends}
use Rattle.http_wire.specs.declared.line.Part.{Part}
use Rattle.http_wire.specs.declared.line.Part.TheVariants.{Start, Name, Value, Return}

-- ---- what makes whole lines a head

head_text : (h : RequestHead) (rest : List ℕ) → print_request h ++ rest ≡ lines_text h ++ (print_end h.last ++ rest)
unfolding lines_text
head_text h rest = print_request-append h rest
    ∙ regroup (print_blank h.blank) h.method h.target (print_version h.minor) (print_end h.line_end) (flat_map print_field h.fields) (print_end h.last) rest
  where
    regroup : (a b c d e f g r : List ℕ)
        → a ++ (b ++ 32 ∷ (c ++ 32 ∷ (d ++ (e ++ ((f ++ g) ++ r))))) ≡ (a ++ (b ++ 32 ∷ (c ++ 32 ∷ (d ++ (e ++ f))))) ++ (g ++ r)
    regroup a b c d e f g r = simp append_assoc

-- these bytes after the others make a head
abbrev pub Ends : List ℕ → List ℕ → Type 0
Ends bytes more = (h : RequestHead) × ReadsRequest (bytes ++ more) h []

ends_lines : (h : RequestHead) → IsRequestHead h → Ends (lines_text h) (10 ∷ [])
unfolding lines_text
ends_lines h valid =
    let whole : RequestHead = record h { last = lf } in (
      whole,
      (
        record { method = valid.method; target = valid.target; target_text = valid.target_text; minor = valid.minor; fields = valid.fields },
        sym (head_text whole []),
      ),
    )

lines_more : (h : RequestHead) (f : Field) → lines_text (record h { fields = h.fields ++ f ∷ [] }) ≡ lines_text h ++ print_field f
unfolding lines_text
lines_more h f =
    ap (λ (s : List ℕ). print_blank h.blank ++ (h.method ++ 32 ∷ (h.target ++ 32 ∷ (print_version h.minor ++ (print_end h.line_end ++ s)))))
    (flat_map-append print_field h.fields (f ∷ []))
    ∙ regroup (print_blank h.blank) h.method h.target (print_version h.minor) (print_end h.line_end) (flat_map print_field h.fields) (print_field f)
  where
    regroup : (a b c d e f g : List ℕ)
        → a ++ (b ++ 32 ∷ (c ++ 32 ∷ (d ++ (e ++ (f ++ (g ++ [])))))) ≡ (a ++ (b ++ 32 ∷ (c ++ 32 ∷ (d ++ (e ++ f))))) ++ g
    regroup a b c d e f g = simp (append_assoc, append-nil)

-- a part of a field line, and the bytes that end it
ends_field : (bytes : List ℕ) (h : RequestHead) (line : List ℕ) (f : Field) (more : List ℕ) → IsRequestHead h → bytes ≡ lines_text h ++ line
    → IsField f → line ++ more ≡ print_field f → Ends bytes (more ++ 10 ∷ [])
ends_field bytes h line f more valid bytes_are field text =
    let longer : RequestHead = record h { fields = h.fields ++ f ∷ [] } in
    let is_head : IsRequestHead longer = record {
      method = valid.method;
      target = valid.target;
      target_text = valid.target_text;
      minor = valid.minor;
      fields = All-push IsField h.fields f valid.fields field;
    } in
    let same : bytes ++ (more ++ 10 ∷ []) ≡ lines_text longer ++ 10 ∷ [] =
    sym (append_assoc bytes more (10 ∷ [])) ∙ ap (λ (s : List ℕ). s ++ 10 ∷ [])
    (ap (λ (s : List ℕ). s ++ more) bytes_are ∙ append_assoc (lines_text h) line more ∙ ap (λ (s : List ℕ). lines_text h ++ s) text
    ∙ sym (lines_more h f)) in
    subst (λ (s : List ℕ). (g : RequestHead) × ReadsRequest s g []) (sym same) (ends_lines longer is_head)

field_of : (name raw : List ℕ) (end : LineEnd) → IsToken name → AllPass is_value_byte raw → IsField (record { name = name; raw = raw; end = end })
field_of name raw end token value = record { name = token; raw = value }

nothing : AllPass is_value_byte []
nothing k d h = absurd (omega (arith, h))

-- what makes bytes with a part of a line a head
ends_part : (bytes : List ℕ) (part : Part) → HasPart bytes part → (b : ℕ) × (more : List ℕ) × Ends bytes (b ∷ more)
ends_part bytes Start p = (
  10,
  [],
  subst (λ (s : List ℕ). Ends s (10 ∷ [])) (sym (p.bytes_are ∙ ap (λ (s : List ℕ). lines_text p.head ++ s) p.part_is ∙ append-nil _))
      (ends_lines p.head p.valid),
)
ends_part bytes Name p = (
  58,
  10 ∷ 10 ∷ [],
  ends_field bytes p.head p.line (record { name = p.line; raw = []; end = lf }) (58 ∷ 10 ∷ []) p.valid p.bytes_are
      (field_of p.line [] lf p.part_is nothing)
      (sym (append_assoc p.line (58 ∷ []) (10 ∷ []))),
)
ends_part bytes Value p =
    let q = p.part_is in (
      10,
      10 ∷ [],
      ends_field bytes p.head p.line (record { name = q.0; raw = q.1; end = lf }) (10 ∷ []) p.valid p.bytes_are (field_of q.0 q.1 lf q.2 q.3)
          (ap (λ (s : List ℕ). s ++ 10 ∷ []) q.4),
    )
ends_part bytes Return p =
    let q = p.part_is in (
      10,
      10 ∷ [],
      ends_field bytes p.head p.line (record { name = q.0; raw = q.1; end = crlf }) (10 ∷ []) p.valid p.bytes_are (field_of q.0 q.1 crlf q.2 q.3)
          (ap (λ (s : List ℕ). s ++ 10 ∷ []) q.4 ∙ simp (append_assoc, cons-append)),
    )

-- bytes to which more must come are no head
not_yet : (bytes : List ℕ) (b : ℕ) (more : List ℕ) → Ends bytes (b ∷ more) → HasNoRequest bytes
not_yet bytes b more ends h rest reads =
    let same = request_unique (bytes ++ b ∷ more) h ends.0 (rest ++ b ∷ more) [] (ReadsRequest-append bytes h rest (b ∷ more) reads) ends.1 in
    absurd (omega (arith, ap length same.1, length-append rest (b ∷ more)))

pub open_part : (bytes : List ℕ) (part : Part) → HasPart bytes part → IsOpen bytes
open_part bytes part p =
    let e = ends_part bytes part p in
    (not_yet bytes e.0 e.1 e.2, λ line. (e.0 ∷ e.1, e.2.0, e.2.1))

-- ---- an open line to which bytes come

pub extends_none : (part : Part) → Extends part [] part
extends_none part line is = subst (IsPart part) (sym (append-nil line)) is

pub extends_then : (part : Part) (bytes : List ℕ) (then : Part) (more : List ℕ) (later : Part) → Extends part bytes then → Extends then more later
    → Extends part (bytes ++ more) later
extends_then part bytes then more later first second line is =
    subst (IsPart later) (append_assoc line bytes more) (second (line ++ bytes) (first line is))

pub value_more : (b : ℕ) → is_value_byte b ≡ true → Extends Value (b ∷ []) Value
value_more b is line p = (
  p.0,
  p.1 ++ b ∷ [],
  p.2,
  All-push (λ c. IsTrue (is_value_byte c)) p.1 b p.3 is,
  ap (λ (s : List ℕ). s ++ b ∷ []) p.4
      ∙ append_assoc p.0 (58 ∷ p.1) (b ∷ []),
)

value_ends : Extends Value (13 ∷ []) Return
value_ends line p = (p.0, p.1, p.2, p.3, ap (λ (s : List ℕ). s ++ 13 ∷ []) p.4 ∙ append_assoc p.0 (58 ∷ p.1) (13 ∷ []))

-- bytes whose open line goes on
pub has_part_more : (bytes : List ℕ) (part : Part) (more : List ℕ) (later : Part) → HasPart bytes part → Extends part more later
    → HasPart (bytes ++ more) later
has_part_more bytes part more later p extends = record {
  head = p.head;
  line = p.line ++ more;
  valid = p.valid;
  bytes_are = ap (λ (s : List ℕ). s ++ more) p.bytes_are ∙ append_assoc (lines_text p.head) p.line more;
  part_is = extends p.line p.part_is;
}

-- the same, where only the first bytes were looked at
pub part_goes_on : (bytes : List ℕ) (seen : ℕ) (part later : Part) → HasPart (take seen bytes) part → Extends part (drop seen bytes) later
    → HasPart bytes later
part_goes_on bytes seen part later p extends =
    subst (λ (s : List ℕ). HasPart s later) (take-append-drop seen bytes) (has_part_more (take seen bytes) part (drop seen bytes) later p extends)
