-- A fault, or that memory ran out. (This project's own.)
use Rattle.io_caps.specs.declared.memory.Or.{Or}
use Rattle.io_caps.specs.declared.memory.Or.TheVariants.{Fault, NoMemory}

-- it is a fault, which has the property
abbrev pub IsFaultAnd : {F : Type 0} → Or F → (F → Type 0) → Type 0
IsFaultAnd (Fault fault) P = P fault
IsFaultAnd NoMemory P = ⊥
