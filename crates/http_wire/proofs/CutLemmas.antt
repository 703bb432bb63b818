-- Whole lines of a head are a head that goes on.
use Rattle.std.proofs.Common.{◌≡◌, ℕ, ◌+◌, ◌≤◌, ◌⊎◌, Bool, true, false}
use Rattle.std.proofs.Common.{◌||◌, ◌==◌, not, List, [], ◌∷◌, ◌++◌, length, drop, All}
use Rattle.std.proofs.Common.{refl, sym, ap, ◌∙◌, subst, arith, inl, inr, append_assoc, append-nil, length-append, true≢false}
use Rattle.std.proofs.Math.Bool.{or-false}
use Rattle.std.proofs.Math.Seq.{drop-append_seam}
use Rattle.std.proofs.lemmas.List.Elements.{All-head, All-tail, All-cons}
use Rattle.std.specs.List.{flat_map, list_any}
use Rattle.std.proofs.lemmas.Bool.{or_parts}
use Rattle.httparse.specs.Grammar.{is_token_byte, is_value_byte, is_uri_byte, LineEnd, crlf, lf, Field, IsField, RequestHead, IsRequestHead}
use Rattle.httparse.specs.Grammar.{print_end, print_blank, print_version, print_field, print_section, print_request, ReadsRequest, HasNoRequest}
use Rattle.httparse.specs.Pieces.{is_newline}
use Rattle.httparse.proofs.GrammarLemmas.{cons-append, print_request-append, ReadsRequest-append}
use Rattle.http_wire.specs.Head.{CanBecomeHead, IsOpen, has_line}
use Rattle.http_wire.specs.Line.{lines_text, HasPart, Extends, AreWholeLines}
use Rattle.http_wire.specs.Scan.{has_line_from, is_begun_behind}
use Rattle.http_wire.specs.declared.line.Part.{Part}
use Rattle.http_wire.specs.declared.line.Part.TheVariants.{Start}
use Rattle.http_wire.proofs.HeadLemmas.{neither, no_line_feed, no_line_feed_in_token}
use Rattle.http_wire.proofs.LineLemmas.{has_part_more}
use Rattle.http_wire.proofs.ScanLemmas.{line_is, line_append}

-- ---- one line

-- whether there is a line feed among the bytes
abbrev pub has_feed : List ℕ → Bool
has_feed bytes = list_any (λ b. b == 10) bytes

-- the bytes, which end with a line feed, are the line, or the line and more such bytes
abbrev pub IsCut : List ℕ → List ℕ → List ℕ → List ℕ → Type 0
IsCut line front more rest =
    ((front ++ 10 ∷ [] ≡ line) × (more ≡ rest))
    ⊎ ((later : List ℕ) × (front ++ 10 ∷ [] ≡ line ++ (later ++ 10 ∷ [])) × ((later ++ 10 ∷ []) ++ more ≡ rest))

head_is : (a b : ℕ) (s t : List ℕ) → a ∷ s ≡ b ∷ t → a ≡ b
head_is a b s t e = cc

tail_is : (a b : ℕ) (s t : List ℕ) → a ∷ s ≡ b ∷ t → s ≡ t
tail_is a b s t e = cc

not_feed : (b : ℕ) (rest : Bool) → ((b == 10) || rest) ≡ false → b ≡ 10 → ⊥
not_feed b rest none e = true≢false (sym (ap (λ (t : ℕ). (t == 10) || rest) e) ∙ none)

cut_more : (c : ℕ) (body front more rest : List ℕ) → IsCut (body ++ 10 ∷ []) front more rest
    → IsCut (c ∷ (body ++ 10 ∷ [])) (c ∷ front) more rest
cut_more c body front more rest (inl whole) = inl (ap (λ (s : List ℕ). c ∷ s) whole.0, whole.1)
cut_more c body front more rest (inr cut) = inr (cut.0, ap (λ (s : List ℕ). c ∷ s) cut.1, cut.2)

pub cut_line : (body front more rest : List ℕ) → has_feed body ≡ false → (front ++ 10 ∷ []) ++ more ≡ (body ++ 10 ∷ []) ++ rest
    → IsCut (body ++ 10 ∷ []) front more rest
cut_line [] [] more rest none e = inl (refl, tail_is 10 10 more rest e)
cut_line [] (b ∷ front) more rest none e =
    let first = head_is b 10 _ _ e in
    inr (front, ap (λ (n : ℕ). n ∷ (front ++ 10 ∷ [])) first, tail_is b 10 ((front ++ 10 ∷ []) ++ more) rest e)
cut_line (c ∷ body) [] more rest none e = absurd (not_feed c (has_feed body) none (sym (head_is 10 c _ _ e)))
cut_line (c ∷ body) (b ∷ front) more rest none e =
    let first = head_is b c _ _ e in
    subst (λ (n : ℕ). IsCut (c ∷ (body ++ 10 ∷ [])) (n ∷ front) more rest) (sym first)
    (cut_more c body front more rest (cut_line body front more rest (or_parts (c == 10) (has_feed body) none).1 (tail_is b c _ _ e)))

-- ---- field lines

-- the bytes of a line end before its line feed
abbrev pub before_feed : LineEnd → List ℕ
before_feed crlf = 13 ∷ []
before_feed lf = []

end_is : (end : LineEnd) → print_end end ≡ before_feed end ++ 10 ∷ []
end_is crlf = refl
end_is lf = refl

no_feed_in_end : (end : LineEnd) → has_feed (before_feed end) ≡ false
no_feed_in_end crlf = refl
no_feed_in_end lf = refl

-- a field line without its line feed
abbrev pub field_body : Field → List ℕ
field_body f = f.name ++ (58 ∷ (f.raw ++ before_feed f.end))

field_is : (f : Field) → print_field f ≡ field_body f ++ 10 ∷ []
field_is f = ap (λ (s : List ℕ). f.name ++ 58 ∷ f.raw ++ s) (end_is f.end) ∙ regroup f.name f.raw (before_feed f.end)
  where
    regroup : (a b c : List ℕ) → a ++ 58 ∷ b ++ (c ++ 10 ∷ []) ≡ (a ++ (58 ∷ (b ++ c))) ++ 10 ∷ []
    regroup a b c = simp (append_assoc, cons-append)

no_feed_in_field : (f : Field) → IsField f → has_feed (field_body f) ≡ false
no_feed_in_field f field =
    no_line_feed is_token_byte no_line_feed_in_token f.name (58 ∷ (f.raw ++ before_feed f.end)) field.name.1
    (no_line_feed is_value_byte refl f.raw (before_feed f.end) field.raw (no_feed_in_end f.end))

-- the bytes are whole field lines, or the fields and the empty line
abbrev pub AreLines : List Field → LineEnd → List ℕ → Type 0
AreLines fields last bytes = (bytes ≡ flat_map print_field fields ++ print_end last)
    ⊎ ((fs : List Field) × All IsField fs × (bytes ≡ flat_map print_field fs))

lines_behind : (f : Field) (fields : List Field) (last : LineEnd) (bytes later : List ℕ) → IsField f → bytes ≡ print_field f ++ later
    → AreLines fields last later → AreLines (f ∷ fields) last bytes
lines_behind f fields last bytes later field e (inl whole) =
    inl (e ∙ ap (λ (s : List ℕ). print_field f ++ s) whole ∙ sym (append_assoc (print_field f) (flat_map print_field fields) (print_end last)))
lines_behind f fields last bytes later field e (inr part) =
    inr (f ∷ part.0, All-cons IsField f part.0 field part.1, e ∙ ap (λ (s : List ℕ). print_field f ++ s) part.2)

no_more : (later more : List ℕ) → (later ++ 10 ∷ []) ++ more ≡ [] → ⊥
no_more later more e = omega (arith, ap length e, length-append (later ++ 10 ∷ []) more, length-append later (10 ∷ []))

last_lines : (last : LineEnd) (front more : List ℕ) → IsCut (before_feed last ++ 10 ∷ []) front more [] → AreLines [] last (front ++ 10 ∷ [])
last_lines last front more (inl whole) = inl (whole.0 ∙ sym (end_is last))
last_lines last front more (inr cut) = absurd (no_more cut.0 more cut.2)

no_fields : All IsField []
no_fields k d h = absurd (omega (arith, h))

first_field : (f : Field) (fields : List Field) (last : LineEnd) (front more : List ℕ) → IsField f
    → ((later : List ℕ) → (later ++ 10 ∷ []) ++ more ≡ flat_map print_field fields ++ print_end last → AreLines fields last (later ++ 10 ∷ []))
    → IsCut (field_body f ++ 10 ∷ []) front more (flat_map print_field fields ++ print_end last) → AreLines (f ∷ fields) last (front ++ 10 ∷ [])
first_field f fields last front more field go (inl whole) =
    inr (f ∷ [], All-cons IsField f [] field no_fields, whole.0 ∙ sym (field_is f) ∙ sym (append-nil (print_field f)))
first_field f fields last front more field go (inr cut) =
    lines_behind f fields last (front ++ 10 ∷ []) (cut.0 ++ 10 ∷ []) field (cut.1 ∙ ap (λ (s : List ℕ). s ++ (cut.0 ++ 10 ∷ [])) (sym (field_is f)))
    (go cut.0 cut.2)

pub cut_fields : (fields : List Field) (last : LineEnd) (front more : List ℕ) → All IsField fields
    → (front ++ 10 ∷ []) ++ more ≡ flat_map print_field fields ++ print_end last → AreLines fields last (front ++ 10 ∷ [])
cut_fields [] last front more valid e =
    last_lines last front more (cut_line (before_feed last) front more [] (no_feed_in_end last) (e ∙ end_is last
    ∙ sym (append-nil (before_feed last ++ 10 ∷ []))))
cut_fields (f ∷ fields) last front more valid e =
    let field = All-head IsField f fields valid in
    let rest = flat_map print_field fields ++ print_end last in
    let text : (front ++ 10 ∷ []) ++ more ≡ (field_body f ++ 10 ∷ []) ++ rest =
    e ∙ append_assoc (print_field f) (flat_map print_field fields) (print_end last) ∙ ap (λ (s : List ℕ). s ++ rest) (field_is f) in
    first_field f fields last front more field
    (λ later g. cut_fields fields last later more (All-tail IsField f fields valid) g)
    (cut_line (field_body f) front more rest (no_feed_in_field f field) text)

-- ---- the start line

-- a start line without its line feed
abbrev pub start_body : RequestHead → List ℕ
start_body h = h.method ++ (32 ∷ (h.target ++ (32 ∷ (print_version h.minor ++ before_feed h.line_end))))

no_feed_in_version : (minor : ℕ) (rest : List ℕ) → minor ≤ 1 → has_feed rest ≡ false → has_feed (print_version minor ++ rest) ≡ false
no_feed_in_version minor rest small none = neither (48 + minor) (has_feed rest) (λ e. absurd (omega (arith, e))) none

no_feed_in_start : (h : RequestHead) → IsRequestHead h → has_feed (start_body h) ≡ false
no_feed_in_start h valid =
    no_line_feed is_token_byte no_line_feed_in_token h.method (32 ∷ (h.target ++ (32 ∷ (print_version h.minor ++ before_feed h.line_end)))) valid.method.1
    (no_line_feed is_uri_byte refl h.target (32 ∷ (print_version h.minor ++ before_feed h.line_end)) valid.target.1
    (no_feed_in_version h.minor (before_feed h.line_end) valid.minor (no_feed_in_end h.line_end)))

-- the bytes of a head: empty lines, the start line, fields and the empty line
start_is : (h : RequestHead) → print_request h ++ [] ≡ print_blank h.blank
    ++ ((start_body h ++ 10 ∷ []) ++ (flat_map print_field h.fields ++ print_end h.last))
start_is h =
    print_request-append h []
    ∙ ap (λ (s : List ℕ). print_blank h.blank ++ (h.method
    ++ 32 ∷ (h.target ++ 32 ∷ (print_version h.minor ++ (s ++ (print_section h.fields h.last ++ [])))))) (end_is h.line_end)
    ∙ regroup (print_blank h.blank) h.method h.target (print_version h.minor) (before_feed h.line_end) (flat_map print_field h.fields ++ print_end h.last)
  where
    regroup : (a b c d e f : List ℕ)
        → a ++ (b ++ 32 ∷ (c ++ 32 ∷ (d ++ ((e ++ 10 ∷ []) ++ (f ++ []))))) ≡ a ++ (((b ++ (32 ∷ (c ++ (32 ∷ (d ++ e))))) ++ 10 ∷ []) ++ f)
    regroup a b c d e f = simp (append_assoc, cons-append, append-nil)

lines_are : (h : RequestHead) (fs : List Field)
    → lines_text (record h { fields = fs }) ≡ print_blank h.blank ++ ((start_body h ++ 10 ∷ []) ++ flat_map print_field fs)
unfolding lines_text
lines_are h fs =
    ap (λ (s : List ℕ). print_blank h.blank ++ (h.method ++ 32 ∷ (h.target ++ 32 ∷ (print_version h.minor ++ (s ++ flat_map print_field fs)))))
    (end_is h.line_end)
    ∙ regroup (print_blank h.blank) h.method h.target (print_version h.minor) (before_feed h.line_end) (flat_map print_field fs)
  where
    regroup : (a b c d e f : List ℕ)
        → a ++ (b ++ 32 ∷ (c ++ 32 ∷ (d ++ ((e ++ 10 ∷ []) ++ f)))) ≡ a ++ (((b ++ (32 ∷ (c ++ (32 ∷ (d ++ e))))) ++ 10 ∷ []) ++ f)
    regroup a b c d e f = simp (append_assoc, cons-append)

-- ---- the whole lines of a head

blank_has_none : (end : LineEnd) → has_line (before_feed end ++ 10 ∷ []) ≡ false
blank_has_none crlf = refl
blank_has_none lf = refl

blank_skipped : (end : LineEnd) (bytes : List ℕ) → has_line ((before_feed end ++ 10 ∷ []) ++ bytes) ≡ has_line bytes
blank_skipped crlf bytes = refl
blank_skipped lf bytes = refl

-- the bytes, which end with a line feed, are these and further such bytes
abbrev pub IsBehind : List ℕ → List ℕ → List ℕ → List ℕ → Type 0
IsBehind before front more rest = (later : List ℕ) × (front ++ 10 ∷ [] ≡ before ++ (later ++ 10 ∷ [])) × ((later ++ 10 ∷ []) ++ more ≡ rest)

behind_blank : (end : LineEnd) (before front more rest later : List ℕ) → front ++ 10 ∷ [] ≡ (before_feed end ++ 10 ∷ []) ++ (later ++ 10 ∷ [])
    → IsBehind before later more rest → IsBehind (print_end end ++ before) front more rest
behind_blank end before front more rest later e b = (
  b.0,
  e ∙ ap (λ (s : List ℕ). (before_feed end ++ 10 ∷ []) ++ s) b.1 ∙ sym (append_assoc (before_feed end ++ 10 ∷ []) before (b.0 ++ 10 ∷ []))
      ∙ ap (λ (s : List ℕ). (s ++ before) ++ (b.0 ++ 10 ∷ [])) (sym (end_is end)),
  b.2,
)

one_blank : (end : LineEnd) (before front more rest tail : List ℕ) → has_line (front ++ 10 ∷ []) ≡ true
    → ((later : List ℕ) → has_line (later ++ 10 ∷ []) ≡ true → (later ++ 10 ∷ []) ++ more ≡ tail → IsBehind before later more rest)
    → IsCut (before_feed end ++ 10 ∷ []) front more tail → IsBehind (print_end end ++ before) front more rest
one_blank end before front more rest tail has go (inl whole) = absurd (true≢false (sym has ∙ ap has_line whole.0 ∙ blank_has_none end))
one_blank end before front more rest tail has go (inr cut) =
    let later_has = sym (blank_skipped end (cut.0 ++ 10 ∷ [])) ∙ ap has_line (sym cut.1) ∙ has in
    behind_blank end before front more rest cut.0 cut.1 (go cut.0 later_has cut.2)

cut_blank : (blank : List LineEnd) (front more rest : List ℕ) → has_line (front ++ 10 ∷ []) ≡ true
    → (front ++ 10 ∷ []) ++ more ≡ print_blank blank ++ rest
    → IsBehind (print_blank blank) front more rest
cut_blank [] front more rest has e = (front, refl, e)
cut_blank (end ∷ blank) front more rest has e =
    let tail = print_blank blank ++ rest in
    let text : (front ++ 10 ∷ []) ++ more ≡ (before_feed end ++ 10 ∷ []) ++ tail =
    e ∙ append_assoc (print_end end) (print_blank blank) rest ∙ ap (λ (s : List ℕ). s ++ tail) (end_is end) in
    one_blank end (print_blank blank) front more rest tail has
    (λ later h g. cut_blank blank later more rest h g) (cut_line (before_feed end) front more tail (no_feed_in_end end) text)

lines_part : (bytes : List ℕ) (h : RequestHead) (fs : List Field) → IsRequestHead h → All IsField fs
    → bytes ≡ print_blank h.blank ++ ((start_body h ++ 10 ∷ []) ++ flat_map print_field fs) → HasPart bytes Start
lines_part bytes h fs valid fields e = record {
  head = record h { fields = fs };
  line = [];
  valid = record { method = valid.method; target = valid.target; target_text = valid.target_text; minor = valid.minor; fields = fields };
  bytes_are = e ∙ sym (lines_are h fs) ∙ sym (append-nil _);
  part_is = refl;
}

fields_part : (front : List ℕ) (h : RequestHead) (later : List ℕ) → IsRequestHead h → HasNoRequest (front ++ 10 ∷ [])
    → front ++ 10 ∷ [] ≡ print_blank h.blank ++ ((start_body h ++ 10 ∷ []) ++ later) → AreLines h.fields h.last later
    → HasPart (front ++ 10 ∷ []) Start
fields_part front h later valid none e (inl whole) =
    absurd (none h [] (valid, e ∙ ap (λ (s : List ℕ). print_blank h.blank ++ ((start_body h ++ 10 ∷ []) ++ s)) whole ∙ sym (start_is h)))
fields_part front h later valid none e (inr part) =
    lines_part (front ++ 10 ∷ []) h part.0 valid part.1 (e ∙ ap (λ (s : List ℕ). print_blank h.blank ++ ((start_body h ++ 10 ∷ []) ++ s)) part.2)

start_part : (front : List ℕ) (h : RequestHead) (more : List ℕ) → IsRequestHead h → HasNoRequest (front ++ 10 ∷ [])
    → (behind : IsBehind (print_blank h.blank) front more ((start_body h ++ 10 ∷ []) ++ (flat_map print_field h.fields ++ print_end h.last)))
    → IsCut (start_body h ++ 10 ∷ []) behind.0 more (flat_map print_field h.fields ++ print_end h.last) → HasPart (front ++ 10 ∷ []) Start
start_part front h more valid none behind (inl whole) =
    lines_part (front ++ 10 ∷ []) h [] valid no_fields (behind.1
    ∙ ap (λ (s : List ℕ). print_blank h.blank ++ s) (whole.0 ∙ sym (append-nil (start_body h ++ 10 ∷ []))))
start_part front h more valid none behind (inr cut) =
    fields_part front h (cut.0 ++ 10 ∷ []) valid none (behind.1 ∙ ap (λ (s : List ℕ). print_blank h.blank ++ s) cut.1)
    (cut_fields h.fields h.last cut.0 more valid.fields cut.2)

-- bytes that end with a line feed, and that can become a head, are whole lines of one
pub lines_of : (bytes front : List ℕ) → bytes ≡ front ++ 10 ∷ [] → has_line bytes ≡ true → IsOpen bytes → HasPart bytes Start
lines_of bytes front e has is_open =
    let can = subst CanBecomeHead e (is_open.1 has) in
    let more = can.0 in
    let h = can.1 in
    let valid = can.2.0 in
    let rest = flat_map print_field h.fields ++ print_end h.last in
    let behind = cut_blank h.blank front more ((start_body h ++ 10 ∷ []) ++ rest) (ap has_line (sym e) ∙ has) (can.2.1 ∙ start_is h) in
    let cut = cut_line (start_body h) behind.0 more rest (no_feed_in_start h valid) behind.2 in
    subst (λ (s : List ℕ). HasPart s Start) (sym e) (start_part front h more valid (subst HasNoRequest e is_open.0) behind cut)

-- ---- whole lines and the bytes after them

no_feed_no_line : (begun : Bool) (bytes : List ℕ) → has_feed bytes ≡ false → has_line_from begun bytes ≡ false
no_feed_no_line begun [] none = refl
no_feed_no_line true (b ∷ bytes) none = rw (or_parts (b == 10) (has_feed bytes) none).0
    (no_feed_no_line true bytes (or_parts (b == 10) (has_feed bytes) none).1)
no_feed_no_line false (b ∷ bytes) none = no_feed_no_line (not (is_newline b)) bytes (or_parts (b == 10) (has_feed bytes) none).1

line_in_lines : (lines rest : List ℕ) → has_feed rest ≡ false → has_line (lines ++ rest) ≡ true → has_line lines ≡ true
line_in_lines lines rest none has =
    line_is lines ∙ sym (or-false _) ∙ ap (λ t. has_line_from false lines || t) (sym (no_feed_no_line (is_begun_behind false lines) rest none))
    ∙ sym (line_append false lines rest) ∙ sym (line_is (lines ++ rest)) ∙ has

open_lines : (lines rest : List ℕ) → has_line (lines ++ rest) ≡ true → IsOpen (lines ++ rest) → IsOpen lines
open_lines lines rest has is_open =
    let can = is_open.1 has in (
      (λ h tail reads. is_open.0 h (tail ++ rest) (ReadsRequest-append lines h tail rest reads)),
      (λ line. (rest ++ can.0, can.1, subst (λ (s : List ℕ). ReadsRequest s can.1 []) (append_assoc lines rest can.0) can.2)),
    )

part_of_ends : (lines : List ℕ) → (lines ≡ []) ⊎ ((front : List ℕ) × (lines ≡ front ++ 10 ∷ [])) → has_line lines ≡ true → IsOpen lines
    → HasPart lines Start
part_of_ends lines (inl empty) has is_open = absurd (true≢false (sym has ∙ ap has_line empty))
part_of_ends lines (inr ends) has is_open = lines_of lines ends.0 ends.1 has is_open

-- bytes that can become a head, and whose open line is that part
pub part_of_open : (bytes lines : List ℕ) (part : Part) → AreWholeLines bytes lines → has_line bytes ≡ true → IsOpen bytes
    → Extends Start (drop (length lines) bytes) part → HasPart bytes part
part_of_open bytes lines part are has is_open extends =
    let rest = are.rest in
    let e = are.bytes_are in
    let behind : drop (length lines) bytes ≡ rest = ap (drop (length lines)) e ∙ drop-append_seam lines rest in
    let has_lines = line_in_lines lines rest are.none (ap has_line (sym e) ∙ has) in
    let start = part_of_ends lines are.ends has_lines (open_lines lines rest (ap has_line (sym e) ∙ has) (subst IsOpen e is_open)) in
    subst (λ (s : List ℕ). HasPart s part) (sym e) (has_part_more lines Start rest part start (rw behind at extends))
