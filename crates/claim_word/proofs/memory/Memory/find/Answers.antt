use Rattle.std.proofs.Common.{ℕ, ◌≡◌, ◌+◌, ◌-◌, ◌*◌, ◌<◌, List, [], true, length, get_or, set}
use Rattle.std.proofs.Common.{refl}
use Rattle.std.proofs.Common.{sym, ap, ◌∙◌, subst, arith, get_or-set_same}
use Rattle.std.specs.Prelude.{Option, Some, vec_len}
use Rattle.std.proofs.Common.{◌≤◌}
use Rattle.claim_word.specs.Holding.{IsHeld}
use Rattle.map_entry.specs.declared.cell.Cell.{Cell}
use Rattle.map_entry.specs.declared.entry.Entry.{Entry}
use Rattle.map_entry.specs.Entry.{selected}
use Rattle.map_entry.specs.Row.{channels_of_output}
use Rattle.map_entry.specs.Tick.{frame_key}
use Rattle.claim_rule.specs.declared.view.View.{View}
use Rattle.claim_rule.specs.Claims.{outputs_of}
use Rattle.claim_rule.specs.Words.{head_words}
use Rattle.claim_rule.proofs.Fitting.{channels_few}
use Rattle.claim_word.specs.declared.memory.Memory.{Memory}
use Rattle.claim_word.specs.Claims.{number_of, read_on, IsMemory}
use Rattle.claim_word.proofs.Claiming.{memory_found, output_there}
use Rattle.claim_word.proofs.Reading.{nobody, read_further}
use Rattle.claim_word.proofs.Remembering.{found_by, found_row, rows_there, IsFound}
use Rattle.claim_word.proofs.memory.Memory.find.Goals as goal
use Rattle.claim_word.proofs.memory.Memory.find.Goals.{After-place_of-place}

-- the entry that rules
found : (c : After-place_of-place)
    → IsFound c.args.seat.now.me.0.entries c.args.claim.now.output
    (frame_key c.args.claim.now.tick 0) c.place_of-place.result
found c = found_by c.args.seat.now.me.0.entries c.place_of-place.new.self.heads.items
    c.args.claim.now.output (frame_key c.args.claim.now.tick 0) c.place_of-place.result
    c.place_of-place.ensures.learnt.heads c.place_of-place.ensures.rules

-- the claim's output is there, and its row
output : (c : After-place_of-place)
    → c.args.claim.now.output < outputs_of c.args.seat.now.me.0.plan
output c =
    let o = c.requires.last.claim.output in
    let t = output_there c.args.seat.now.me.0.plan
    (number_of c.args.seat.now.me.0.plan c.args.claim.now) c.requires.table.1 in omega arith

rows : (c : After-place_of-place) → (c.args.claim.now.output < length c.args.self.now.rows.items)
    × (length (get_or c.args.self.now.rows.items c.args.claim.now.output []) ≡ channels_of_output
    c.args.seat.now.me.0.plan.setup.device c.args.claim.now.output)
rows c = rows_there c.args.seat.now.me.0.plan.setup.device c.args.self.now.rows.items
    c.args.claim.now.output c.requires.memory.rows (output c)

-- the entry's row is as long as the output's
its_row : (c : After-place_of-place) (d : Entry)
    → length (get_or c.args.seat.now.me.0.entries c.place_of-place.result d).row
    ≡ channels_of_output c.args.seat.now.me.0.plan.setup.device c.args.claim.now.output
its_row c d =
    let v : View = c.args.seat.now.me.0 in let f = found c in
    let fit = c.requires.entries.1 c.place_of-place.result d f.there in
    fit.ok.row.long ∙ ap (channels_of_output v.plan.setup.device) (f.output d)

-- what the loads of heads leave
entries_stay : (c : After-place_of-place)
    → c.place_of-place.new.seat.me.0.entries ≡ c.args.seat.now.me.0.entries
entries_stay c = ap (λ m. m.0.entries) c.place_of-place.ensures.seat.2

rows_stay : (c : After-place_of-place)
    → c.place_of-place.new.self.rows.items ≡ c.args.self.now.rows.items
rows_stay c = ap (λ r. r.items) c.place_of-place.ensures.rows.0

pub hold_row-requires-clause-rows : goal.hold_row-requires-clause-rows
hold_row-requires-clause-rows c =
    let at = (goal.at.hold_row-requires-clause-rows c).After-place_of-place in
    let v : View = c.args.seat.now.me.0 in let r = rows at in
    let few = (channels_few v.plan.setup.device c.args.claim.now.output
    c.requires.table.1.setup.device (output at)).1 in
    let long : length (get_or c.place_of-place.new.self.rows.items c.output.result [])
    ≡ channels_of_output v.plan.setup.device c.args.claim.now.output =
    (λ i. length (get_or (rows_stay at i) (c.output.ensures i) [])) ∙ r.1 in
    let o = c.output.ensures in let l = ap length (rows_stay at) in
    (omega (arith, r.0, o, l), omega (arith, few, long))

pub hold_row-requires-clause-long : goal.hold_row-requires-clause-long
hold_row-requires-clause-long c = λ d.
    let at = (goal.at.hold_row-requires-clause-long c).After-place_of-place in
    (λ i. length (get_or (rows_stay at i) (c.output.ensures i) []))
    ∙ ((rows at).1 ∙ (sym (its_row at d) ∙ ap (λ (es : List Entry).
    length (get_or es c.place_of-place.result d).row) (sym (entries_stay at))))

-- each output has a place
held_count : (c : After-place_of-place) → length c.place_of-place.new.self.row_places.items
    ≡ length c.args.seat.now.me.0.plan.setup.device.outputs
held_count c = ap (λ r. length r.items) c.place_of-place.ensures.places.0
    ∙ c.requires.memory.rows_held.count

pub hold_row-requires-clause-held : goal.hold_row-requires-clause-held
hold_row-requires-clause-held c =
    let at = (goal.at.hold_row-requires-clause-held c).After-place_of-place in
    let there = output at in let n = held_count at in let o = c.output.ensures in (
      omega (arith, there, n, o),
      subst (λ (z : List Entry × ℕ × List (Option ℕ) × List (List Cell)). IsHeld z.0 z.1 z.2 z.3)
          (λ i. (
            sym (entries_stay at) i,
            sym n i,
            ap (λ r. r.items) (sym c.place_of-place.ensures.places.0) i,
            sym (rows_stay at) i,
          ))
          c.requires.memory.rows_held,
    )

-- how many loads there are, of heads and of the row
abbrev heads_read : After-place_of-place → ℕ
heads_read c = head_words
    * (length c.args.seat.now.me.0.entries - vec_len c.args.self.now.heads)

pub returns-clause-view : goal.returns-clause-view
returns-clause-view c =
    let at = (goal.at.returns-clause-view c).After-place_of-place in
    let v : View = c.args.seat.now.me.0 in let a = c.place_of-place.ensures.seat.2 in
    let b = c.hold_row.ensures.view in let k : ℕ = heads_read at in (
      k + b.0,
      b.2 ∙ (ap (λ m. (read_on m.0 b.0, m.1)) a
          ∙ ap (λ w. (w, c.args.seat.now.me.1)) (read_further v k b.0)),
    )

-- the row that is read
read_is : (c : After-place_of-place) (o : ℕ) (xs : List (List Cell)) → o ≡ c.args.claim.now.output
    → ((d : Entry) → xs ≡ set c.place_of-place.new.self.rows.items o
    (get_or c.place_of-place.new.seat.me.0.entries c.place_of-place.result d).row)
    → xs ≡ set c.args.self.now.rows.items c.args.claim.now.output
    (get_or c.args.seat.now.me.0.entries c.place_of-place.result nobody).row
read_is c o xs its read =
    read nobody ∙ (λ i. set (rows_stay c i) (its i)
    (get_or (entries_stay c i) c.place_of-place.result nobody).row)

pub returns-clause-memory : goal.returns-clause-memory
returns-clause-memory c =
    let at = (goal.at.returns-clause-memory c).After-place_of-place in
    let v : View = c.args.seat.now.me.0 in let memory = c.requires.memory in
    let a = c.place_of-place.ensures.seat.2 in let b = c.hold_row.ensures.view in
    let claim = c.requires.last.claim in let learnt = c.place_of-place.ensures.learnt in
    let number : ℕ = number_of v.plan c.args.claim.now in
    let n : ℕ = b.0 in let k : ℕ = heads_read at in
    let row : List Cell = (get_or v.entries c.place_of-place.result nobody).row in
    let now : c.hold_row.new.seat.me.0 ≡ read_on v (k + n) = ap (λ m. m.0) b.2
    ∙ (ap (λ m. read_on m.0 n) a ∙ read_further v k n) in
    let as_long : length (get_or c.place_of-place.new.self.rows.items c.output.result [])
    ≡ length row = (λ i. length (get_or (rows_stay at i) (c.output.ensures i) []))
    ∙ ((rows at).1 ∙ sym (its_row at nobody)) in
    let x : Memory = record {
      heads = c.place_of-place.new.self.heads;
      chains = c.place_of-place.new.self.chains;
      rows = c.hold_row.new.rows;
      row_places = c.hold_row.new.held;
      parts = c.place_of-place.new.self.parts;
      part_places = c.place_of-place.new.self.part_places;
      ready = true;
    } in
    let count : k + n ≤ head_words * (length v.entries - length c.args.self.now.heads.items)
    + length row = let ok = c.args.self.now.heads.ok in
    let same : k ≡ head_words * (length v.entries - length c.args.self.now.heads.items) =
    ap (λ (l : ℕ). head_words * (length v.entries - l)) ok.0 in
    omega (arith, same, b.1, as_long) in
    subst (λ (w : View). IsMemory w x) (sym now)
    (memory_found v c.args.self.now x number (k + n) row c.requires.table.1 memory c.if-self.false
    c.requires.last.draw claim.early
    (record {
      learnt = record {
        room = learnt.room;
        heads = learnt.heads;
        chains = learnt.chains;
        all = learnt.all;
        passed = learnt.passed;
      };
      rows = read_is at c.output.result c.hold_row.new.rows.items c.output.ensures
          c.hold_row.ensures.rows
          ∙ ap (λ (o : ℕ). set c.args.self.now.rows.items o row) claim.output;
      parts = ap (λ r. r.items) c.place_of-place.ensures.rows.1;
      rows_held = subst (λ (z : List Entry × ℕ). IsHeld z.0 z.1 c.hold_row.new.held.items
          c.hold_row.new.rows.items) (λ i. (entries_stay at i, held_count at i))
          c.hold_row.ensures.held;
      part_places = ap (λ r. r.items) c.place_of-place.ensures.places.1;
      ready = refl;
      row_long = its_row at nobody ∙ ap (channels_of_output v.plan.setup.device) claim.output;
      row_is = (λ i. selected v.entries (sym claim.output i) (frame_key (sym claim.tick i) 0))
          ∙ found_row v.entries c.args.claim.now.output (frame_key c.args.claim.now.tick 0)
          c.place_of-place.result (found at) nobody;
    })
    count)

pub returns-clause-row : goal.returns-clause-row
returns-clause-row c =
    let at = (goal.at.returns-clause-row c).After-place_of-place in
    let v : View = c.args.seat.now.me.0 in
    let row : List Cell = (get_or v.entries c.place_of-place.result nobody).row in
    let o : ℕ = c.args.claim.now.output in
    let here : get_or c.hold_row.new.rows.items o [] ≡ row =
    ap (λ (rs : List (List Cell)). get_or rs o [])
    (read_is at c.output.result c.hold_row.new.rows.items c.output.ensures
    c.hold_row.ensures.rows)
    ∙ get_or-set_same c.args.self.now.rows.items o row [] (rows at).0 in
    found_row v.entries o (frame_key c.args.claim.now.tick 0) c.place_of-place.result (found at)
    nobody
    ∙ ap Some (sym here)
