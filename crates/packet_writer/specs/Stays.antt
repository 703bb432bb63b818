-- What calls leave as it was. (This project's own.)

-- A relation between before and after that holds where nothing was done, and that goes on from call
-- to call.
pub record IsOnward {Source : Type 0} (stays : Source → Source → Type 0) : Type 0 where
  pub still : (a : Source) → stays a a
  pub on : (a b c : Source) → stays a b → stays b c → stays a c
