use Rattle.std.proofs.Common.{◌≡◌, List, refl, sym, ap, subst, ◌∙◌, arith, rules}
use Rattle.map_entry.specs.declared.entry.Entry.{Entry}
use Rattle.packet_writer.specs.Packet.{output_of_claim}
use Rattle.serial_player.specs.Claim.{FitsOutput}
use Rattle.serial_player.specs.Made.{own_entries}
use Rattle.serial_player.specs.OutputEntries.{RulesAlike}
use Rattle.serial_player.proofs.OutputEntries.{rules_of}
use Rattle.serial_player.proofs.claims.AllClaims.claim.Goals as goal

pub returns : goal.returns
returns c =
    let ready = c.requires.ready in
    let there = c.requires.there in
    let all = c.args.self.now in
    let s = all.setup.now in
    let own : c.output_entries.result.now ≡ own_entries all c.args.k = search rules in
    record {
      ready = record {
        claim = omega (arith, there, ready.claims);
        device = ready.device;
        rows = subst (λ (es : List Entry). FitsOutput s es c.args.k) (sym own)
            (ready.rows c.args.k there);
        table = ready.table;
      };
      setup = refl;
      by = λ entries blocks are. (
        subst (λ (es : List Entry). RulesAlike s es entries c.args.k) (sym own)
            (rules_of s entries all.entries.now c.args.k ready.device.bounds.some_output are.0),
        are.1 c.args.k there,
      );
      made = λ entries blocks. refl;
    }
