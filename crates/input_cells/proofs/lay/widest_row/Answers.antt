use Rattle.std.proofs.Common.{◌≡◌, ℕ, ◌+◌, ◌-◌, ◌*◌, ◌≤◌, ◌∷◌, replicate, ap, subst}
use Rattle.map_entry.specs.Row.{channels_of}
use Rattle.input_cells.specs.Shapes.{BeginsUnfed, shape_of}
use Rattle.input_cells.proofs.Giving.{if_ok}
use Rattle.input_cells.proofs.Laying.{wide}
use Rattle.input_cells.proofs.lay.widest_row.Goals as goal

pub returns : goal.returns
returns c =
    let block : ℕ = c.rate.result.frames * c.most_channels.result in
    let frames = ap (λ z. z.frames) c.rate.ensures.value in
    if_ok (λ row. row.items ≡ c.args.from ∷ replicate
    (1 + (c.args.ticks + c.args.ticks * block) - 1) 0)
    (λ row. (input : ℕ)
    → BeginsUnfed (shape_of c.args.device.now c.args.from c.args.ticks input) row.items)
    c.first_row.result c.first_row.ensures
    (λ row is input. record {
      rest = 1 + (c.args.ticks + c.args.ticks * block) - 1;
      row_is = is;
      long = subst
          (λ (f : ℕ). 1 +
          (c.args.ticks + c.args.ticks * (f * channels_of c.args.device.now.inputs input)) ≤ 1 +
          (1 + (c.args.ticks + c.args.ticks * block) - 1)) frames
          (wide c.args.ticks c.rate.result.frames (channels_of c.args.device.now.inputs input)
          c.most_channels.result (c.most_channels.ensures.most input));
    })
