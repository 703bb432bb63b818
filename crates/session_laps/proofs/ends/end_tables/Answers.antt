use Rattle.std.proofs.Common.{◌≡◌, ◌≤◌, List, length, true, sym, ap, ◌∙◌, subst}
use Rattle.std.specs.Prelude.{All}
use Rattle.std.specs.List.{list_any}
use Rattle.claim_rule.specs.Ends.{Ends}
use Rattle.claim_word.specs.Endings.{all_seen, draws_in}
use Rattle.claim_word.specs.Faces.{IsPassOf, PassFace}
use Rattle.input_cells.specs.Agreement.{Agrees, AreTrueOf, blocks_set}
use Rattle.input_cells.specs.Faces.{IsReadOf, SeatFace, heard_of, looks_of}
use Rattle.packet_worker.specs.Faces.{WorkerFace}
use Rattle.session_laps.proofs.Ending.{passes_long, passes_of, reads_of}
use Rattle.session_laps.proofs.Lists.{all_back}
use Rattle.session_laps.proofs.ends.end_tables.Goals as goal

pub end-requires-clause-workers : goal.end-requires-clause-workers
end-requires-clause-workers c = (
  subst (All (IsPassOf c.args.table)) (sym c.apart-passes.ensures.passes)
      (passes_of c.args.table c.args.inputs c.args.workers c.requires.of_workers),
  ap length c.apart-passes.ensures.passes ∙ passes_long c.args.workers ∙ c.requires.all_workers,
)

pub end-requires-2-clause-readers : goal.end-requires-2-clause-readers
end-requires-2-clause-readers c =
    subst (All (IsReadOf c.args.inputs)) (sym c.apart-passes.ensures.reads)
    (reads_of c.args.table c.args.inputs c.args.workers c.requires.of_workers)

pub returns : goal.returns
returns c = record {
  ends = subst (λ (ps : List PassFace). Ends c.args.table.plan c.args.publisher.view.entries
      (draws_in ps) (all_seen c.args.publisher c.args.clients)) c.apart-passes.ensures.passes
      c.end.ensures.ends;
  full = subst (λ (ps : List PassFace). list_any (λ (w : PassFace). w.ended) ps ≡ true
      → c.args.table.plan.packets ≤ length (draws_in ps)) c.apart-passes.ensures.passes
      c.end.ensures.full;
  agree = λ s from ticks is.
      all_back (λ (r : List SeatFace). Agrees s.device (looks_of r) (heard_of r)
      (blocks_set c.args.feeds)) (λ (w : WorkerFace). w.reads) c.args.workers
      (subst (All (λ (r : List SeatFace). Agrees s.device (looks_of r) (heard_of r)
      (blocks_set c.args.feeds))) c.apart-passes.ensures.reads
      (c.end-2.ensures.agree s.device from ticks is));
  words = all_back (AreTrueOf c.args.feeds) (λ (w : WorkerFace). w.reads) c.args.workers
      (subst (All (AreTrueOf c.args.feeds)) c.apart-passes.ensures.reads c.end-2.ensures.words);
}
