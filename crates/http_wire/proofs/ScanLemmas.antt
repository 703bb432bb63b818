-- The search for the end of the first line, and what is known of bytes.
use Rattle.std.proofs.Common.{◌≡◌, ℕ, Bool, true, false, ◌||◌, ◌&&◌, ◌==◌, not, List, [], ◌∷◌, ◌++◌, length, take, drop}
use Rattle.std.proofs.Common.{refl, sym, ap, ◌∙◌, subst, arith, append_assoc, length-append, take_all, take-append-drop, true≢false}
use Rattle.std.proofs.Common.{Result, Ok, Err, OnOk, OnErr}
use Rattle.std.proofs.Math.Bool.{or_assoc, or-true}
use Rattle.std.proofs.lemmas.Bool.Decides.{nat_tests}
use Rattle.std.proofs.lemmas.List.{take-append-le}
use Rattle.std.specs.List.{flat_map, list_any}
use Rattle.httparse.specs.Grammar.{RequestHead, IsRequestHead, HasNoRequest, LineEnd, crlf, lf}
use Rattle.httparse.specs.Grammar.{print_end, print_blank, print_version, print_field, print_section}
use Rattle.httparse.specs.Pieces.{is_newline}
use Rattle.httparse.proofs.GrammarLemmas.{print_request-append}
use Rattle.httparse.proofs.PieceLemmas.{Stops_token}
use Rattle.http_wire.specs.Head.{IsOpen, has_line}
use Rattle.http_wire.specs.Scan.{has_line_from, is_begun_behind, HasNoLine}
use Rattle.http_wire.specs.Found.{HasHead, IsKnown}
use Rattle.http_wire.specs.Line.{lines_text, HasPart}
use Rattle.http_wire.specs.declared.head.Head.{Head}
use Rattle.http_wire.specs.declared.known.HeadScan.{HeadScan}
use Rattle.http_wire.specs.declared.known.HeadScan.TheVariants.{NoLine, Lines, OpenLine, Whole}
use Rattle.http_wire.specs.declared.line.Part.{Part}
use Rattle.http_wire.proofs.HeadLemmas.{skip_blank, stopped}
use Rattle.http_wire.proofs.FoundLemmas.{has_head_append}

-- ---- a search that goes on

pub line_append : (begun : Bool) (xs ys : List ℕ)
    → has_line_from begun (xs ++ ys) ≡ (has_line_from begun xs || has_line_from (is_begun_behind begun xs) ys)
line_append begun [] ys = refl
line_append begun (b ∷ xs) ys = ap (λ t. (begun && b == 10) || t) (line_append (begun || not (is_newline b)) xs ys)
    ∙ sym (or_assoc (begun && b == 10) _ _)

pub begun_append : (begun : Bool) (xs ys : List ℕ) → is_begun_behind begun (xs ++ ys) ≡ is_begun_behind (is_begun_behind begun xs) ys
begun_append begun [] ys = refl
begun_append begun (b ∷ xs) ys = begun_append (begun || not (is_newline b)) xs ys

-- ---- what it finds

line_begun : (bytes : List ℕ) → has_line_from true bytes ≡ list_any (λ b. b == 10) bytes
line_begun [] = refl
line_begun (b ∷ bytes) = ap (λ t. (b == 10) || t) (line_begun bytes)

line_start : (b : ℕ) (bytes : List ℕ) (newline : Bool) → is_newline b ≡ newline → has_line bytes ≡ has_line_from false bytes
    → has_line (b ∷ bytes) ≡ has_line_from (not newline) bytes
line_start b bytes true is same = rw is same
line_start b bytes false is same = rw is (grind (is, line_begun bytes, nat_tests, arith))

pub line_is : (bytes : List ℕ) → has_line bytes ≡ has_line_from false bytes
line_is [] = refl
line_is (b ∷ bytes) = line_start b bytes (is_newline b) refl (line_is bytes)

-- ---- a head has a line

any_append : (xs ys : List ℕ) → list_any (λ b. b == 10) ys ≡ true → list_any (λ b. b == 10) (xs ++ ys) ≡ true
any_append [] ys h = h
any_append (b ∷ xs) ys h = rw (any_append xs ys h) (or-true (b == 10))

end_has_line : (end : LineEnd) (rest : List ℕ) → list_any (λ b. b == 10) (print_end end ++ rest) ≡ true
end_has_line crlf rest = refl
end_has_line lf rest = refl

-- the bytes after empty lines, of a start line and what follows
abbrev pub start_text : RequestHead → List ℕ → List ℕ
start_text h rest = h.method ++ 32 ∷ (h.target ++ 32 ∷ (print_version h.minor ++ (print_end h.line_end ++ rest)))

feed_in_start : (h : RequestHead) (rest : List ℕ) → list_any (λ b. b == 10) (start_text h rest) ≡ true
feed_in_start h rest =
    let lines = print_end h.line_end ++ rest in
    let target = h.target ++ 32 ∷ (print_version h.minor ++ lines) in
    let version = any_append (print_version h.minor) lines (end_has_line h.line_end rest) in
    any_append h.method (32 ∷ target) (any_append h.target (32 ∷ (print_version h.minor ++ lines)) version)

pub line_in_head : (h : RequestHead) (rest : List ℕ) → IsRequestHead h → has_line (print_blank h.blank ++ start_text h rest) ≡ true
line_in_head h rest valid =
    let target = h.target ++ 32 ∷ (print_version h.minor ++ (print_end h.line_end ++ rest)) in
    let starts = stopped (start_text h rest) (Stops_token h.method (32 ∷ target) valid.method.0 valid.method.1) in
    ap (list_any (λ b. b == 10)) (skip_blank h.blank (start_text h rest) ∙ starts) ∙ feed_in_start h rest

pub no_head : (bytes : List ℕ) → has_line bytes ≡ false → HasNoRequest bytes
no_head bytes none h rest x =
    let text = x.1 ∙ print_request-append h rest in
    absurd (true≢false (sym (line_in_head h (print_section h.fields h.last ++ rest) x.0) ∙ ap has_line (sym text) ∙ none))

line_unless : (bytes : List ℕ) (line : Bool) → has_line bytes ≡ line → ¬ (HasNoRequest bytes) → has_line bytes ≡ true
line_unless bytes true is h = is
line_unless bytes false is h = absurd (h (no_head bytes is))

-- a head has a line
pub line_of_head : (bytes : List ℕ) (head : Head) → HasHead bytes head → has_line bytes ≡ true
line_of_head bytes head found = line_unless bytes (has_line bytes) refl (λ none. none found.0 (drop head.len bytes) found.1.fit.reads)

-- whole lines and a part of one more have a line
pub line_of_part : (bytes : List ℕ) (part : Part) → HasPart bytes part → has_line bytes ≡ true
unfolding lines_text
line_of_part bytes part p =
    let h = p.head in
    ap has_line (p.bytes_are ∙ regroup (print_blank h.blank) h.method h.target (print_version h.minor) (print_end h.line_end)
    (flat_map print_field h.fields) p.line)
    ∙ line_in_head h (flat_map print_field h.fields ++ p.line) p.valid
  where
    regroup : (a b c d e f g : List ℕ)
        → (a ++ (b ++ 32 ∷ (c ++ 32 ∷ (d ++ (e ++ f))))) ++ g ≡ a ++ (b ++ 32 ∷ (c ++ 32 ∷ (d ++ (e ++ (f ++ g)))))
    regroup a b c d e f g = simp append_assoc

-- a line stays when more bytes come
pub line_more : (bytes more : List ℕ) → has_line bytes ≡ true → has_line (bytes ++ more) ≡ true
line_more bytes more has =
    line_is (bytes ++ more) ∙ line_append false bytes more ∙ ap (λ t. t || has_line_from (is_begun_behind false bytes) more) (sym (line_is bytes) ∙ has)

-- the same of the first bytes
pub line_of_front : (bytes : List ℕ) (seen : ℕ) (part : Part) → HasPart (take seen bytes) part → has_line bytes ≡ true
line_of_front bytes seen part p =
    ap has_line (sym (take-append-drop seen bytes)) ∙ line_more (take seen bytes) (drop seen bytes) (line_of_part (take seen bytes) part p)

-- ---- what is known where no line was found

-- the first bytes have no line, and the others end one or not
pub line_behind : (bytes : List ℕ) (seen : ℕ) (begun : Bool) → HasNoLine bytes seen begun → has_line bytes ≡ has_line_from begun (drop seen bytes)
line_behind bytes seen begun known =
    let front = take seen bytes in
    let rest = drop seen bytes in
    line_is bytes ∙ ap (has_line_from false) (sym (take-append-drop seen bytes)) ∙ line_append false front rest
    ∙ rw (known.none, ← known.begun_is) refl

pub no_line_open : (bytes : List ℕ) → has_line bytes ≡ false → IsOpen bytes
no_line_open bytes none = (no_head bytes none, λ has. absurd (true≢false (sym has ∙ none)))

pub no_line_known : (bytes : List ℕ) (seen : ℕ) (begun behind : Bool) → HasNoLine bytes seen begun → has_line_from begun (drop seen bytes) ≡ false
    → behind ≡ is_begun_behind begun (drop seen bytes) → HasNoLine bytes (length bytes) behind
no_line_known bytes seen begun behind known none behind_is =
    let front = take seen bytes in
    let rest = drop seen bytes in
    let whole : take (length bytes) bytes ≡ bytes = take_all (length bytes) bytes (omega arith) in
    let line = sym (line_is bytes) ∙ line_behind bytes seen begun known ∙ none in
    let all = ap (is_begun_behind false) (take-append-drop seen bytes) in
    record {
      within = omega arith;
      none = rw whole line;
      begun_is = rw whole (behind_is ∙ ap (λ t. is_begun_behind t rest) known.begun_is ∙ sym (begun_append false front rest) ∙ all);
    }

-- what is known stays known when more bytes come
pub known_more : (bytes : List ℕ) (known : HeadScan) (more : List ℕ) → IsKnown bytes known
    → IsKnown (bytes ++ more) known
known_more bytes (NoLine seen begun) more is =
    let same = take-append-le seen bytes more is.within in
    record { within = omega (arith, is.within, length-append bytes more); none = rw same is.none; begun_is = rw same is.begun_is }
known_more bytes Lines more is = line_more bytes more is
known_more bytes (OpenLine seen part) more is =
    (omega (arith, is.0, length-append bytes more), subst (λ (s : List ℕ). HasPart s part) (sym (take-append-le seen bytes more is.0)) is.1)
known_more bytes (Whole head) more is = has_head_append bytes head more is

pub fed_known : {A E : Type 0} (result : Result A E) (bytes : List ℕ) (known : HeadScan)
    (more new : List ℕ) → IsKnown bytes known
    → OnOk result (new ≡ bytes ++ more) → OnErr result (new ≡ bytes) → IsKnown new known
fed_known (Ok v) bytes known more new is ok err = subst (λ (s : List ℕ). IsKnown s known) (sym ok) (known_more bytes known more is)
fed_known (Err e) bytes known more new is ok err = subst (λ (s : List ℕ). IsKnown s known) (sym err) is
