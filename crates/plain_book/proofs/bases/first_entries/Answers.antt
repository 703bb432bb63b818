use Rattle.std.proofs.Common.{◌≡◌, ℕ, List, [], ◌∷◌, ◌++◌, Option, map, sym, ap, ◌∙◌, zero-add}
use Rattle.std.specs.List.{range_with_len}
use Rattle.std.specs.Option.{unwrap_or}
use Rattle.std.proofs.lemmas.List.FromFn.{map-range_with_len_more}
use Rattle.map_entry.specs.declared.cell.Cell.{Cell}
use Rattle.map_entry.specs.declared.entry.Entry.{Entry}
use Rattle.map_entry.specs.Entry.{entry_of, selected}
use Rattle.map_entry.specs.Tick.{frame_key}
use Rattle.plain_book.specs.Carry.{first_entry}
use Rattle.plain_book.specs.Journal.{row_from}
use Rattle.plain_book.specs.Time.{tick_after}
use Rattle.plain_book.proofs.bases.first_entries.Goals as goal

pub loop-output-preserved : goal.loop-output-preserved
loop-output-preserved c =
    let s = c.args.setup.now in
    let o = c.loop-output.output in
    let f = first_entry s c.args.entries.now c.args.claims in
    let value = ap (λ (r : Option (List Cell)). unwrap_or r []) c.row.ensures in
    let here : row_from s c.args.entries.now o c.args.claims ≡ c.row.result.now =
    ap (λ (t : ℕ). unwrap_or (selected c.args.entries.now o (frame_key t 0)) []) (sym c.requires.first) ∙ value in
    let entry : c.new.result ≡ f o =
    c.new.ensures ∙ ap (λ (t : ℕ). entry_of o t 0 c.in_ok-row.row 0) c.requires.first
    ∙ ap (λ (r : List Cell). entry_of o (tick_after s c.args.claims) 0 r 0)
    (c.in_ok-row.ensures ∙ sym here) in
    c.in_ok-push.ensures.ok
    ∙ ap (λ (z : List Entry). z ++ c.new.result ∷ []) c.loop-output.invariant
    ∙ ap (λ (e : Entry). map f (range_with_len 0 o) ++ e ∷ []) entry
    ∙ sym (map-range_with_len_more f 0 o o (zero-add o))
