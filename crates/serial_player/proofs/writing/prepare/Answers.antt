use Rattle.std.proofs.Common.{rules}
use Rattle.capture_file.proofs.Between.{left_of}
use Rattle.capture_file.specs.declared.format.Format.TheVariants.{Two}
use Rattle.serial_player.specs.HistoryParts.{capture_by}
use Rattle.serial_player.proofs.History.{capture_same, parts_same}
use Rattle.serial_player.proofs.writing.prepare.Goals as goal

pub make_parts-requires : goal.make_parts-requires
make_parts-requires c =
    record {
      capture = capture_same
          (capture_by c.args.format c.args.setup.now c.args.items.now c.args.ticks) Two
          c.requires.capture tt;
    }

pub write_between-requires : goal.write_between-requires
write_between-requires c =
    rw (c.as_slice.ensures, c.as_slice-2.ensures)
    (left_of c.args.format c.args.setup.now.device _
    (c.in_ok-parts.ensures.fits c.requires.fits c.args.format c.requires.capture.grain))

pub returns : goal.returns
returns c =
    let whole = capture_by c.args.format c.args.setup.now c.args.items.now c.args.ticks in
    let parts = parts_same whole Two _ c.in_ok-parts.ensures in
    record {
      parts_are = parts;
      fits = parts.fits c.requires.fits c.args.format c.requires.capture.grain;
      between = search rules;
      found = search rules;
      waiting = search rules;
      size = search rules;
    }
