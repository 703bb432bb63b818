-- What those know who step on a table, and how their views change, are cut and are joined. (This
-- project's own.)
use Rattle.std.specs.Prelude.{◌≡◌, ℕ, ◌+◌, ◌-◌, ◌≤◌, true, false, List, []}
use Rattle.std.specs.Prelude.{◌∷◌, ◌++◌, cond, nat_le, ◌==◌, drop, slice_set}
use Rattle.std.specs.List.{sum_by}
use Rattle.map_entry.specs.declared.entry.Entry.{Entry}
use Rattle.map_entry.specs.Setup.{SetupParts}
use Rattle.map_entry.specs.declared.grain.Grain.TheVariants.{Tick}
use Rattle.claim_rule.specs.declared.plan.Plan.{Plan}
use Rattle.claim_rule.specs.declared.plan.Start.{Start}
use Rattle.claim_rule.specs.declared.view.View.{View}
use Rattle.claim_rule.specs.declared.view.Draw.{Draw}
use Rattle.claim_rule.specs.declared.view.Sight.{Sight}
use Rattle.claim_rule.specs.Claims.{plan_of}

-- the list begins with these
abbrev pub Begins : {X : Type 0} → List X → List X → Type 0
Begins {X} front list = (rest : List X) × (list ≡ front ++ rest)

-- ---- numbers drawn

-- the draw of a number, which found these entries
abbrev pub draw : ℕ → List Entry → Draw
draw number found = record { number = number; found = found }

-- 1 for a draw past the packets, which claims nothing
abbrev pub late : Plan → Draw → ℕ
late plan d = cond (nat_le plan.packets d.number) 1 0

-- how many draws of a view claimed nothing
abbrev pub overs : Plan → View → ℕ
overs plan v = sum_by (late plan) v.draws

-- how often a number stands among draws
abbrev pub is_at : ℕ → Draw → ℕ
is_at number d = cond (d.number == number) 1 0

-- how often a number was drawn
abbrev pub times : ℕ → List Draw → ℕ
times number draws = sum_by (is_at number) draws

-- 1 for a number below the bound, and 0 from it on
abbrev pub once_below : ℕ → ℕ → ℕ
once_below number bound = cond (nat_le bound number) 0 1

-- ---- states seen

-- a state that was seen: how many numbers were drawn, and how many entries published
abbrev pub sight : ℕ → ℕ → Sight
sight raw count = record { raw = raw; count = count }

-- a table with these numbers of entries published and of numbers drawn has come as far as the state
-- seen
pub record IsSight (count drawn : ℕ) (s : Sight) : Type 0 where
  pub raw : s.raw ≤ drawn
  pub entries : s.count ≤ count

-- ---- views

-- the publisher's first view
abbrev pub opener : Start → View
opener start = record {
  live = true;
  plan = plan_of start;
  parts = start.workers;
  draws = [];
  entries = start.entries.value;
  loads = 0;
  pieces = 0;
  publishes = true;
  cells = drop 1 start.words.value.items;
  sights = [];
  told = [];
}

-- a new view of a given number of parts that was told of these states
abbrev pub newcomer : Plan → ℕ → List Sight → View
newcomer plan parts told = record {
  live = true;
  plan = plan;
  parts = parts;
  draws = [];
  entries = [];
  loads = 0;
  pieces = 0;
  publishes = false;
  cells = [];
  sights = [];
  told = told;
}

-- a publisher that has given a worker's pass, and the pass
abbrev pub without_part : View → View
without_part v = record v { parts = v.parts - 1 }

-- what a new worker's pass knows: the plan, and that it may draw past the packets once
abbrev pub worker : View → View
worker v = newcomer v.plan 1 []

-- a note of all that was seen, and a view that took one in
abbrev pub note : View → View
note v = newcomer v.plan 0 (v.sights ++ v.told)

-- a view that took in what another has seen or was told
abbrev pub noted : View → View → View
noted v w = record v { told = v.told ++ (w.sights ++ w.told) }

-- a publisher that took a worker's pass in
abbrev pub taken_in : View → View → View
taken_in v w = record v { parts = v.parts + w.parts; draws = v.draws ++ w.draws }

-- the view after a draw, after a load of an entry's word, after a look at the state, after a store,
-- after a publication
abbrev pub drew : View → ℕ → List Entry → View
drew v number found = record v { draws = v.draws ++ draw number found ∷ []; entries = found }

-- a view after one load more of an entry's word
abbrev pub loaded : View → View
loaded v = record v { loads = v.loads + 1 }

-- a view after one load more of a word of a row for a part of a packet
abbrev pub pieced : View → View
pieced v = record v { pieces = v.pieces + 1 }

-- a view that saw a state
abbrev pub saw : View → ℕ → ℕ → View
saw v raw count = record v { sights = v.sights ++ sight raw count ∷ [] }

-- a view that stored a word of an entry's place
abbrev pub wrote : View → ℕ → ℕ → View
wrote v place word = record v { cells = slice_set v.cells place word }

-- a view that published entries after those before
abbrev pub added : View → List Entry → View
added v new = record v { entries = v.entries ++ new }

-- what is left of a view that was taken in: it is of no table
abbrev pub no_setup : SetupParts
no_setup = record {
  device = record {
    rate = record { hz = 0; frames = 0 };
    base = 0;
    hold = 0;
    inputs = [];
    outputs = [];
  };
  rows = [];
  grain = Tick;
}

-- the plan of no table
abbrev pub no_plan : Plan
no_plan = record { setup = no_setup; from = 0; packets = 0; workers = 0; given = 0 }

-- what is left of a view that was taken in: it knows nothing, and takes no more steps
abbrev pub spent : View
spent = record (newcomer no_plan 0 []) { live = false }
