use Rattle.std.proofs.Common.{ℕ, ◌+◌, ◌-◌, ◌/◌, length, arith, refl, ap, sym}
use Rattle.block_builder.specs.Blocks.{piece_at, frame_bytes}
use Rattle.block_builder.proofs.Filling.{fill_begins, fill_keeps, fill_takes, fill_shows}
use Rattle.block_builder.proofs.Filling.{fill_counts, near_from, past_to}
use Rattle.block_builder.proofs.Filling.{IsFilled, subst3, frame_is}
use Rattle.block_builder.proofs.slot.fill_each.Goals as goal
use Rattle.block_builder.proofs.slot.fill_each.Goals.{then-not-is_held, else-not-is_held}

pub loop-place-init : goal.loop-place-init
loop-place-init c =
    fill_begins c.args.intake (piece_at c.args.intake c.args.first c.args.payload.now) c.args.tick
    c.args.samples.now c.args.held.now c.tick_place-start.result _ c.min-from.result
    c.tick_place-start.ensures.value (omega (arith, c.min-from.ensures, c.max.ensures))
    (omega (arith, c.min-from.ensures, c.max.ensures))
    (near_from c.args.first c.tick_place-start.result
    (c.tick_place-start.result + c.args.intake.frames) c.min-from.result
    (omega (arith, c.min-from.ensures, c.max.ensures)))
    c.requires.block c.requires.flags refl

pub loop-place-preserved : goal.loop-place-preserved
loop-place-preserved c =
    elim c.if-not-is_held.branch [
      | then-not-is_held w ↦
          subst3 (λ s h u. IsFilled c.args.intake
          (piece_at c.args.intake c.args.first c.args.payload.now) c.args.tick c.args.samples.now
          c.args.held.now s h c.tick_place-start.result
          (c.tick_place-start.result + c.args.intake.frames) (c.loop-place.place + 1) u)
          (sym w.samples-is) (sym w.held-is) (sym w.used-is)
          (fill_takes c.args.intake (piece_at c.args.intake c.args.first c.args.payload.now)
          c.args.tick c.args.samples.now c.args.held.now c.loop-place.samples
          w.put_frame.new.samples c.loop-place.held _ c.tick_place-start.result _ c.loop-place.place
          c.loop-place.used _
          c.tick_place-start.ensures.value refl
          (omega (arith, c.loop-place-test.true, c.min-to.ensures)) w.if-not-is_held.true
          (omega (
            arith,
            c.loop-place.auto.place,
            c.min-from.ensures,
            c.max.ensures,
            c.loop-place-test.true,
            c.min-to.ensures,
          ))
          (omega (
            arith,
            c.loop-place-test.true,
            c.min-to.ensures,
            ap (λ (b : ℕ). c.args.first + length c.args.payload.now / b)
                c.frame_len-frame_len.ensures,
          ))
          (frame_is c.args.intake c.args.payload.now (c.loop-place.place - c.args.first)
          c.frame_len-frame_len.result c.frame_len-frame_len.ensures)
          w.put_frame.ensures.value refl w.put_frame.ensures.block c.loop-place.invariant)
      | else-not-is_held w ↦
          subst3 (λ s h u. IsFilled c.args.intake
          (piece_at c.args.intake c.args.first c.args.payload.now) c.args.tick c.args.samples.now
          c.args.held.now s h c.tick_place-start.result
          (c.tick_place-start.result + c.args.intake.frames) (c.loop-place.place + 1) u)
          (sym w.samples-is) (sym w.held-is) (sym w.used-is)
          (fill_keeps c.args.intake (piece_at c.args.intake c.args.first c.args.payload.now)
          c.args.tick c.args.samples.now c.args.held.now c.loop-place.samples c.loop-place.held
          c.tick_place-start.result _ c.loop-place.place c.loop-place.used
          refl (omega (arith, c.loop-place-test.true, c.min-to.ensures)) w.if-not-is_held.false
          c.loop-place.invariant)
    ]

pub returns-clause-shown : goal.returns-clause-shown
returns-clause-shown c =
    fill_shows c.args.intake (piece_at c.args.intake c.args.first c.args.payload.now) c.args.tick
    c.args.samples.now c.args.held.now c.loop-place.samples c.loop-place.held
    c.tick_place-start.result _ c.loop-place.place c.loop-place.used
    c.tick_place-start.ensures.value refl
    (past_to (c.args.first + length c.args.payload.now / frame_bytes c.args.intake)
    (c.tick_place-start.result + c.args.intake.frames) c.min-to.result c.loop-place.place
    (omega (
      arith,
      c.min-to.ensures,
      ap (λ (b : ℕ). c.args.first + length c.args.payload.now / b) c.frame_len-frame_len.ensures,
    ))
    c.loop-place-test.false) c.loop-place.invariant

pub returns-clause-count : goal.returns-clause-count
returns-clause-count c =
    fill_counts c.args.intake (piece_at c.args.intake c.args.first c.args.payload.now) c.args.tick
    c.args.samples.now c.args.held.now c.loop-place.samples c.loop-place.held
    c.tick_place-start.result _ c.loop-place.place c.loop-place.used
    c.tick_place-start.ensures.value refl
    (past_to (c.args.first + length c.args.payload.now / frame_bytes c.args.intake)
    (c.tick_place-start.result + c.args.intake.frames) c.min-to.result c.loop-place.place
    (omega (
      arith,
      c.min-to.ensures,
      ap (λ (b : ℕ). c.args.first + length c.args.payload.now / b) c.frame_len-frame_len.ensures,
    ))
    c.loop-place-test.false) c.loop-place.invariant
