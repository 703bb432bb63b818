use Rattle.std.specs.Prelude.{Option}
use Rattle.claim_word.specs.Holding.{IsHeld}
use Rattle.std.proofs.Common.{ℕ, ◌≡◌, ◌+◌, ◌-◌, ◌*◌, ◌<◌, List, [], length, get_or, set}
use Rattle.std.proofs.Common.{sym, ap, ◌∙◌, subst, arith, get_or-set_same}
use Rattle.std.specs.Prelude.{Some}
use Rattle.map_entry.specs.declared.cell.Cell.{Cell}
use Rattle.map_entry.specs.declared.entry.Entry.{Entry}
use Rattle.map_entry.specs.Entry.{selected}
use Rattle.map_entry.specs.Row.{channels_of_output}
use Rattle.map_entry.specs.Tick.{frame_key}
use Rattle.claim_rule.specs.declared.view.View.{View}
use Rattle.claim_rule.specs.Claims.{outputs_of}
use Rattle.claim_rule.specs.Words.{head_words}
use Rattle.claim_rule.proofs.Fitting.{channels_few}
use Rattle.claim_word.specs.declared.memory.Memory.{Memory}
use Rattle.claim_word.specs.Claims.{number_of, pieced_on, read_on, IsMemory}
use Rattle.claim_word.proofs.Claiming.{memory_parted, output_there}
use Rattle.claim_word.proofs.Reading.{nobody}
use Rattle.map_entry.specs.Entry.{IsFirstRuled, IsPiece}
use Rattle.map_entry.proofs.Selection.{piece_rows, piece_ruled}
use Rattle.claim_word.specs.declared.chain.Head.{Head}
use Rattle.claim_word.specs.Chains.{IsFirstDue}
use Rattle.claim_word.proofs.Remembering.{cut_at, first_found, found_by, rows_there, IsFound}
use Rattle.std.proofs.Common.{drop, take}
use Rattle.std.specs.Prelude.{vec_len}
use Rattle.claim_word.proofs.memory.Memory.find_from.Goals as goal
use Rattle.claim_word.proofs.memory.Memory.find_from.Goals.{After-place_of-place, After-output}
use Rattle.claim_word.proofs.memory.Memory.find_from.Goals.{After-hold_part, After-upto}

-- the entry that rules
found : (c : After-place_of-place)
    → IsFound c.args.seat.now.me.0.entries c.args.claim.now.output
    (frame_key c.args.claim.now.tick c.args.frame) c.place_of-place.result
found c = found_by c.args.seat.now.me.0.entries c.place_of-place.new.self.heads.items
    c.args.claim.now.output (frame_key c.args.claim.now.tick c.args.frame) c.place_of-place.result
    c.place_of-place.ensures.learnt.heads c.place_of-place.ensures.rules

-- the claim's output is there, and its row
output : (c : After-place_of-place)
    → c.args.claim.now.output < outputs_of c.args.seat.now.me.0.plan
output c =
    let o = c.requires.last.claim.output in
    let t = output_there c.args.seat.now.me.0.plan
    (number_of c.args.seat.now.me.0.plan c.args.claim.now) c.requires.table.1 in omega arith

rows : (c : After-place_of-place) → (c.args.claim.now.output < length c.args.self.now.parts.items)
    × (length (get_or c.args.self.now.parts.items c.args.claim.now.output []) ≡ channels_of_output
    c.args.seat.now.me.0.plan.setup.device c.args.claim.now.output)
rows c = rows_there c.args.seat.now.me.0.plan.setup.device c.args.self.now.parts.items
    c.args.claim.now.output c.requires.memory.parts (output c)

-- the entry's row is as long as the output's
its_row : (c : After-place_of-place) (d : Entry)
    → length (get_or c.args.seat.now.me.0.entries c.place_of-place.result d).row
    ≡ channels_of_output c.args.seat.now.me.0.plan.setup.device c.args.claim.now.output
its_row c d =
    let v : View = c.args.seat.now.me.0 in let f = found c in
    let fit = c.requires.entries.1 c.place_of-place.result d f.there in
    fit.ok.row.long ∙ ap (channels_of_output v.plan.setup.device) (f.output d)

-- what the loads of heads leave
entries_stay : (c : After-place_of-place)
    → c.place_of-place.new.seat.me.0.entries ≡ c.args.seat.now.me.0.entries
entries_stay c = ap (λ m. m.0.entries) c.place_of-place.ensures.seat.2

rows_stay : (c : After-place_of-place)
    → c.place_of-place.new.self.parts.items ≡ c.args.self.now.parts.items
rows_stay c = ap (λ r. r.items) c.place_of-place.ensures.rows.1

pub hold_part-requires-clause-rows : goal.hold_part-requires-clause-rows
hold_part-requires-clause-rows c =
    let at = (goal.at.hold_part-requires-clause-rows c).After-place_of-place in
    let v : View = c.args.seat.now.me.0 in let r = rows at in
    let few = (channels_few v.plan.setup.device c.args.claim.now.output
    c.requires.table.1.setup.device (output at)).1 in
    let long : length (get_or c.place_of-place.new.self.parts.items c.output.result [])
    ≡ channels_of_output v.plan.setup.device c.args.claim.now.output =
    (λ i. length (get_or (rows_stay at i) (c.output.ensures i) [])) ∙ r.1 in
    let o = c.output.ensures in let l = ap length (rows_stay at) in
    (omega (arith, r.0, o, l), omega (arith, few, long))

pub hold_part-requires-clause-long : goal.hold_part-requires-clause-long
hold_part-requires-clause-long c = λ d.
    let at = (goal.at.hold_part-requires-clause-long c).After-place_of-place in
    (λ i. length (get_or (rows_stay at i) (c.output.ensures i) []))
    ∙ ((rows at).1 ∙ (sym (its_row at d) ∙ ap (λ (es : List Entry).
    length (get_or es c.place_of-place.result d).row) (sym (entries_stay at))))

-- each output has a place
held_count : (c : After-place_of-place) → length c.place_of-place.new.self.part_places.items
    ≡ length c.args.seat.now.me.0.plan.setup.device.outputs
held_count c = ap (λ r. length r.items) c.place_of-place.ensures.places.1
    ∙ c.requires.memory.parts_held.count

pub hold_part-requires-clause-held : goal.hold_part-requires-clause-held
hold_part-requires-clause-held c =
    let at = (goal.at.hold_part-requires-clause-held c).After-place_of-place in
    let there = output at in let n = held_count at in let o = c.output.ensures in (
      omega (arith, there, n, o),
      subst (λ (z : List Entry × ℕ × List (Option ℕ) × List (List Cell)). IsHeld z.0 z.1 z.2 z.3)
          (λ i. (
            sym (entries_stay at) i,
            sym n i,
            ap (λ r. r.items) (sym c.place_of-place.ensures.places.1) i,
            sym (rows_stay at) i,
          ))
          c.requires.memory.parts_held,
    )

-- ---- what the loads leave

abbrev heads_read : After-place_of-place → ℕ
heads_read c = head_words
    * (length c.args.seat.now.me.0.entries - vec_len c.args.self.now.heads)

view_is : (c : After-hold_part) (k : ℕ)
    → c.place_of-place.new.seat.me ≡ (read_on c.args.seat.now.me.0 k, c.args.seat.now.me.1)
    → c.hold_part.new.seat.me
    ≡ (
      pieced_on (read_on c.args.seat.now.me.0 k) c.hold_part.ensures.view.0,
      c.args.seat.now.me.1,
    )
view_is c k read = c.hold_part.ensures.view.2
    ∙ ap (λ m. (pieced_on m.0 c.hold_part.ensures.view.0, m.1)) read

pub returns-clause-view : goal.returns-clause-view
returns-clause-view c =
    let at = (goal.at.returns-clause-view c).After-place_of-place in
    let after = (goal.at.returns-clause-view c).After-hold_part in
    let long : length (get_or c.place_of-place.new.self.parts.items c.output.result [])
    ≡ channels_of_output c.args.seat.now.me.0.plan.setup.device c.args.claim.now.output =
    (λ i. length (get_or (rows_stay at i) (c.output.ensures i) [])) ∙ (rows at).1 in
    record {
      heads = heads_read at;
      words = c.hold_part.ensures.view.0;
      few = omega (arith, long, c.hold_part.ensures.view.1);
      view = view_is after (heads_read at) c.place_of-place.ensures.seat.2;
    }

-- the row that is read
read_is : (c : After-place_of-place) (o : ℕ) (xs : List (List Cell)) → o ≡ c.args.claim.now.output
    → ((d : Entry) → xs ≡ set c.place_of-place.new.self.parts.items o
    (get_or c.place_of-place.new.seat.me.0.entries c.place_of-place.result d).row)
    → xs ≡ set c.args.self.now.parts.items c.args.claim.now.output
    (get_or c.args.seat.now.me.0.entries c.place_of-place.result nobody).row
read_is c o xs its read =
    read nobody ∙ (λ i. set (rows_stay c i) (its i)
    (get_or (entries_stay c i) c.place_of-place.result nobody).row)

pub returns-clause-memory : goal.returns-clause-memory
returns-clause-memory c =
    let at = (goal.at.returns-clause-memory c).After-place_of-place in
    let after = (goal.at.returns-clause-memory c).After-hold_part in
    let v : View = c.args.seat.now.me.0 in
    let n : ℕ = c.hold_part.ensures.view.0 in
    let x : Memory = record {
      heads = c.place_of-place.new.self.heads;
      chains = c.place_of-place.new.self.chains;
      rows = c.place_of-place.new.self.rows;
      row_places = c.place_of-place.new.self.row_places;
      parts = c.hold_part.new.rows;
      part_places = c.hold_part.new.held;
      ready = c.place_of-place.new.self.ready;
    } in
    let learnt = c.place_of-place.ensures.learnt in
    let ok = c.args.self.now.heads.ok in
    subst (λ (w : View). IsMemory w x)
    (sym (ap (λ m. m.0) (view_is after (heads_read at) c.place_of-place.ensures.seat.2)))
    (memory_parted v c.args.self.now x (number_of v.plan c.args.claim.now)
    c.args.claim.now.output (heads_read at) n
    (get_or v.entries c.place_of-place.result nobody).row c.requires.table.1 c.requires.memory
    c.requires.last.draw (output at)
    (record {
      learnt = record {
        room = learnt.room;
        heads = learnt.heads;
        chains = learnt.chains;
        all = learnt.all;
        passed = learnt.passed;
      };
      rows = ap (λ r. r.items) c.place_of-place.ensures.rows.0;
      parts = read_is at c.output.result c.hold_part.new.rows.items c.output.ensures
          c.hold_part.ensures.rows;
      row_places = ap (λ r. r.items) c.place_of-place.ensures.places.0;
      parts_held = subst (λ (z : List Entry × ℕ). IsHeld z.0 z.1 c.hold_part.new.held.items
          c.hold_part.new.rows.items) (λ i. (entries_stay at i, held_count at i))
          c.hold_part.ensures.held;
      ready = c.place_of-place.ensures.rows.2;
      row_long = its_row at nobody;
    })
    (ap (λ (l : ℕ). head_words * (length v.entries - l)) ok.0))

-- ---- the frames that the entry rules

first_due : (c : After-upto)
    → IsFirstDue c.place_of-place.new.self.heads.items c.args.claim.now.tick c.args.frame
    c.args.frames c.upto.result c.place_of-place.result
first_due c = subst (λ (z : List Head × ℕ). IsFirstDue z.0 z.1 c.args.frame c.args.frames
    c.upto.result c.place_of-place.result)
    (λ i. (c.as_slice-heads.ensures.value i, c.tick.ensures i)) c.upto.ensures

first : (c : After-upto)
    → IsFirstRuled (drop (c.place_of-place.result + 1) c.args.seat.now.me.0.entries)
    c.args.claim.now.output c.args.claim.now.tick c.args.frame c.args.frames c.upto.result
first c =
    let rules = c.place_of-place.ensures.rules in
    first_found c.args.seat.now.me.0.entries c.place_of-place.new.self.heads.items
    c.args.claim.now.output c.args.claim.now.tick c.args.frame c.args.frames c.upto.result
    c.place_of-place.result c.place_of-place.ensures.learnt.heads rules.there rules.its rules.come
    (first_due c)

pub returns-clause-piece : goal.returns-clause-piece
returns-clause-piece c =
    let f = found (goal.at.returns-clause-piece c).After-place_of-place in
    let es : List Entry = c.args.seat.now.me.0.entries in
    let k : ℕ = c.place_of-place.result in
    subst (λ (l : List Entry). IsPiece l c.args.claim.now.output c.args.claim.now.tick
    c.args.frame c.args.frames c.upto.result) (sym (cut_at es k nobody f.there))
    (piece_ruled (take k es) (get_or es k nobody) (drop (k + 1) es) c.args.claim.now.output
    c.args.claim.now.tick c.args.frame c.args.frames c.upto.result (f.hit nobody) f.past
    (first (goal.at.returns-clause-piece c).After-upto))

pub returns-clause-row : goal.returns-clause-row
returns-clause-row c = λ f from to.
    let at = (goal.at.returns-clause-row c).After-place_of-place in
    let is = found at in
    let es : List Entry = c.args.seat.now.me.0.entries in
    let k : ℕ = c.place_of-place.result in
    let row : List Cell = (get_or es k nobody).row in let o : ℕ = c.args.claim.now.output in
    let here : get_or c.hold_part.new.rows.items o [] ≡ row =
    ap (λ (rs : List (List Cell)). get_or rs o [])
    (read_is at c.output.result c.hold_part.new.rows.items c.output.ensures
    c.hold_part.ensures.rows)
    ∙ get_or-set_same c.args.self.now.parts.items o row [] (rows at).0 in
    ap (λ (l : List Entry). selected l o (frame_key c.args.claim.now.tick f))
    (cut_at es k nobody is.there)
    ∙ (piece_rows (take k es) (get_or es k nobody) (drop (k + 1) es) o c.args.claim.now.tick
    c.args.frame c.args.frames c.upto.result (is.hit nobody)
    (first (goal.at.returns-clause-row c).After-upto) f from to
    ∙ ap Some (sym here))
