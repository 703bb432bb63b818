-- How rows are read back word by word.
use Rattle.std.proofs.Common.{◌≡◌, ℕ, ◌+◌, ◌<◌, List, [], length, get_or, set, sym, ap, ◌∙◌, arith}
use Rattle.std.proofs.Common.{get_or-set_same, get_or-set_other}
use Rattle.std.proofs.lemmas.List.{same_lists}
use Rattle.std.specs.List.{All}
use mathlib.Core.Logic.{dite}
use native.Mathlib.Decide.{ℕ_discrete}
use Rattle.map_entry.specs.declared.cell.Cell.{Cell}
use Rattle.map_entry.specs.declared.entry.Entry.{Entry}
use Rattle.claim_rule.specs.declared.plan.Plan.{Plan}
use Rattle.claim_rule.specs.declared.view.View.{View}
use Rattle.claim_rule.specs.Claims.{IsSound, IsFit}
use Rattle.claim_rule.specs.Words.{cell_word, entry_words}
use Rattle.claim_rule.specs.Words.{IsByteCell}
use Rattle.claim_word.specs.Claims.{pieced_on, read_on}
use Rattle.claim_word.proofs.Spelling.{byte_cells, long, row_word}

-- an entry to read past the end of a list
abbrev pub nobody : Entry
nobody = record { output = 0; tick = 0; offset = 0; row = []; at = 0 }

-- the row so far
abbrev pub AreSame : List Cell → List Cell → ℕ → Type 0
AreSame row want n = (k : ℕ) (c : Cell) → k < n → get_or row k c ≡ get_or want k c

pub same_more : (row want : List Cell) (i : ℕ) (x : Cell) → i < length row → AreSame row want i
    → ((c : Cell) → x ≡ get_or want i c) → AreSame (set row i x) want (i + 1)
same_more row want i x inside same here k c lt = dite (ℕ_discrete k i)
    (λ is. ap (λ (n : ℕ). get_or (set row i x) n c) is
    ∙ (get_or-set_same row i x c inside ∙ (here c ∙ ap (λ (n : ℕ). get_or want n c) (sym is))))
    (λ other. get_or-set_other row i k x c other ∙ same k c (omega arith))

pub same_whole : (row want : List Cell) → length row ≡ length want → AreSame row want (length row)
    → row ≡ want
same_whole row want same_long same = same_lists row want same_long (λ k c lt. same k c lt)

-- a cell that was read
pub read_one : (plan : Plan) (entries : List Entry) (place at word : ℕ) (x : Cell) → IsSound plan
    → All (IsFit plan) entries → place < length entries
    → ((d : Entry) → at < length (get_or entries place d).row)
    → ((d : Entry) → place < length entries → 2 + at < length (entry_words (get_or entries place d))
    → word ≡ get_or (entry_words (get_or entries place d)) (2 + at) 0)
    → ((c : Cell) → IsByteCell c → word ≡ cell_word c → x ≡ c) → (d : Entry) (c : Cell)
    → x ≡ get_or (get_or entries place d).row at c
read_one plan entries place at word x sound fits inside short told made d c =
    let e : Entry = get_or entries place d in let fit = fits place d inside in let l = long e in
    let s = short d in
    let is : word ≡ cell_word (get_or e.row at c) = told d inside (omega arith)
    ∙ row_word e at c s in
    made (get_or e.row at c) (byte_cells plan e sound fit at c s) is

pub read_further : (v : View) (m n : ℕ) → read_on (read_on v m) n ≡ read_on v (m + n)
read_further v m n = let a : (v.loads + m) + n ≡ v.loads + (m + n) = omega arith in
    (λ k. record v { loads = a k })

pub read_nothing : (v : View) → v ≡ read_on v 0
read_nothing v = let a : v.loads ≡ v.loads + 0 = omega arith in (λ k. record v { loads = a k })

pub pieced_further : (v : View) (m n : ℕ) → pieced_on (pieced_on v m) n ≡ pieced_on v (m + n)
pieced_further v m n = let a : (v.pieces + m) + n ≡ v.pieces + (m + n) = omega arith in
    (λ k. record v { pieces = a k })

pub pieced_nothing : (v : View) → v ≡ pieced_on v 0
pieced_nothing v = let a : v.pieces ≡ v.pieces + 0 = omega arith in
    (λ k. record v { pieces = a k })
