-- Runs of frames that one row rules. (This project's own.)
use Rattle.std.specs.Prelude.{ℕ, ◌-◌, List, ℤ}
use Rattle.io_caps.specs.declared.port.Input.{Input}
use Rattle.packet_writer.specs.Heard.{TickBlocks, samples_from}
use Rattle.packet_writer.specs.declared.piece.Piece.{Piece}

-- how many frames a piece has
abbrev pub count_of : Piece → ℕ
count_of piece = piece.upto - piece.frame

-- its samples
abbrev pub piece_samples : List Input → TickBlocks → Piece → List ℤ
piece_samples inputs blocks piece =
    samples_from inputs blocks (λ f. piece.row.now) piece.frame (count_of piece)
