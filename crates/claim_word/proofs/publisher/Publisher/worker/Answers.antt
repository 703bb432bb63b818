use Rattle.std.proofs.Common.{◌∙◌, sym, ap, arith}
use Rattle.std.proofs.Common.{◌≡◌, ◌≤◌, false, [], refl, subst, rules}
use Rattle.std.specs.Prelude.{vec_capacity}
use Rattle.claim_rule.specs.declared.view.View.{View}
use Rattle.claim_rule.specs.Plays.{Knows}
use Rattle.claim_rule.specs.Views.{worker}
use Rattle.claim_rule.proofs.Seats.{hands_keeps}
use Rattle.claim_word.specs.Claims.{IsMemory, IsWorker}
use Rattle.claim_word.proofs.Claiming.{memory_new, worker_new}
use Rattle.claim_word.proofs.publisher.Publisher.worker.Goals as goal

pub split_seat-seat-requires : goal.split_seat-seat-requires
split_seat-seat-requires c = let p = c.self.invariant.0 in let parts = p.parts in
    let t = c.if-self.false in let w = c.self.invariant.2 in (
      ap (λ z. z.id) c.self.view_is ∙ (c.requires.id_is ∙ sym (ap (λ z. z.id) c.table.view_is)),
      omega (arith, c.table.invariant.1),
      hands_keeps c.table.inside.table.shared.key _ _ p.live (omega arith) p.none_drawn,
    )

pub invariant_of-result : goal.invariant_of-result
invariant_of-result c =
    let p : View = c.self.inside.seat.me.0 in let publisher = c.self.invariant.0 in
    let room = c.in_ok-claims.ensures in
    let made : c.split_seat-seat.result.me ≡ (worker p, []) = search rules in
    let few : p.plan.packets ≤ vec_capacity c.in_ok-claims.field-0.claims =
    let r = room.claims.1 in let s = publisher.span_is.packets_is in omega (arith, r, s) in
    subst (λ (m : Knows). IsWorker m.0 c.self.inside.span c.in_ok-claims.field-0.claims.items
    (vec_capacity c.in_ok-claims.field-0.claims) false
    × IsMemory m.0 c.in_ok-claims.field-0.memory × (m.1 ≡ [])) (sym made) (
      worker_new p c.self.inside.span c.in_ok-claims.field-0.claims.items
          (vec_capacity c.in_ok-claims.field-0.claims) publisher.sound publisher.span_is
          room.claims.0 few,
      memory_new p c.in_ok-claims.field-0.memory c.self.inside.rows (record {
        heads = room.heads.0;
        room = room.heads.1;
        next = room.next.0;
        links = room.next.1;
        tracks = room.tracks;
        rows_are = room.rows;
        parts_are = room.parts;
        row_places = room.row_places;
        part_places = room.part_places;
      }) publisher.rows_are,
      refl,
    )
