-- What is read of a body: times, actions and cells are within their ranges.
use Rattle.std.proofs.Common.{◌≡◌, ℕ, ◌<◌, ◌≤◌, Bool, true, false, not, List, [], ◌∷◌, length}
use Rattle.std.proofs.Common.{Option, Some, None, Ok, Err, inl, inr, refl, ap, subst, ◌∙◌, arith}
use Rattle.std.specs.Prelude.{Result, codes, nat_le, is_some, option_map, option_and_then, ◌&&◌}
use Rattle.std.specs.Prelude.{if◌then◌else◌}
use Rattle.std.specs.List.{list_any, position}
use Rattle.std.specs.Result.{result_ok}
use Rattle.std.specs.Str.{bytes_eq}
use Rattle.std.proofs.lemmas.Bool.{and_parts, cases_Bool, leb-true, ltb-true}
use Rattle.std.proofs.lemmas.List.Quantifiers.{position-Some}
use Rattle.std.proofs.lemmas.Option.{same_Some}
use Rattle.serde_json.specs.Data.{Data}
use Rattle.serde_json.specs.Find.{get, as_number, as_object, as_u64}
use Rattle.io_caps.specs.declared.device.DeviceParts.{DeviceParts}
use Rattle.tai_time.specs.Time.{IsTai, TaiTime, is_colon, nanos_part, secs_limit, secs_part, second}
use Rattle.map_entry.specs.Action.{OutputChangeParts}
use Rattle.map_entry.specs.declared.cell.Cell.{Cell}
use Rattle.map_entry.specs.declared.cell.Cell.TheVariants.{Unrouted, From}
use Rattle.book_words.specs.declared.requests.Request.TheVariants.{Activate}
use Rattle.book_words.specs.declared.requests.When.{When}
use Rattle.book_words.specs.declared.requests.When.TheVariants.{Now, At, After}
use Rattle.channel_json.specs.Fields.{at_most, is_null_at, object_at, text_at, whole_at, whole_in}
use Rattle.channel_json.specs.Requests.{action_fault, action_in, activate_in, and_then, cell_in}
use Rattle.channel_json.specs.Requests.{input_number, or_fault, request_by, request_in, routed_in}
use Rattle.channel_json.specs.Requests.{scheduling_at, scheduling_in, time_at, time_in}
use Rattle.channel_json.specs.Requests.{time_of_parts, unless_fault, when_at, when_in}
use Rattle.channel_json.specs.Values.{document}
use Rattle.channel_json.specs.declared.faults.BodyFault.{BodyFault}
use Rattle.channel_json.specs.declared.faults.BodyFault.TheVariants.{NotJson, Shape, UnknownInput}
use Rattle.channel_json.specs.declared.faults.Place.TheVariants.{Top, Activation, Mode, Time}
use Rattle.channel_json.specs.declared.faults.Place.TheVariants.{Action, Cell as CellPlace}
use Rattle.channel_json.specs.declared.requests.Scheduling.{Scheduling}
use Rattle.channel_json.specs.declared.requests.Scheduling.TheVariants.{Immediate, Absolute}
use Rattle.channel_json.specs.declared.requests.Scheduling.TheVariants.{Relative}

or_fault_ok : {A B : Type 0} (fault : BodyFault) (o : Option A) (go : A → Result B BodyFault)
    (b : B) → or_fault fault o go ≡ Ok b
    → (a : A) × (o ≡ Some a) × (go a ≡ Ok b)
or_fault_ok fault None go b e = absurd cc
or_fault_ok fault (Some a) go b e = (a, refl, e)

and_then_ok : {A B : Type 0} (read : Result A BodyFault) (go : A → Result B BodyFault) (b : B)
    → and_then read go ≡ Ok b
    → (a : A) × (read ≡ Ok a) × (go a ≡ Ok b)
and_then_ok (Ok a) go b e = (a, refl, e)
and_then_ok (Err fault) go b e = absurd cc

unless_fault_ok : {A : Type 0} (o : Option BodyFault) (a b : A) → unless_fault o a ≡ Ok b → a ≡ b
unless_fault_ok None a b e = cc
unless_fault_ok (Some fault) a b e = absurd cc

-- two outcomes are one
abbrev AreSame : {A : Type 0} → Result A BodyFault → Result A BodyFault → Type 0
AreSame x y = x ≡ y

ok_same : {A : Type 0} (a b : A) → AreSame (Ok a) (Ok b) → a ≡ b
ok_same a b e = cc

-- what comes of what was found
pub mapped_some : {A B : Type 0} (f : A → B) (o : Option A) (b : B) → option_map f o ≡ Some b
    → (a : A) × (o ≡ Some a) × (f a ≡ b)
mapped_some f None b e = absurd cc
mapped_some f (Some a) b e = (a, refl, same_Some (f a) b e)

pub then_some : {A B : Type 0} (f : A → Option B) (o : Option A) (b : B)
    → option_and_then f o ≡ Some b
    → (a : A) × (f a ≡ Some b)
then_some f None b e = absurd cc
then_some f (Some a) b e = (a, e)

-- the time of an activation is one
abbrev pub IsWhen : When → Type 0
IsWhen Now = Unit {0}
IsWhen (At t) = IsTai t
IsWhen (After t) = IsTai t

some_if : {X : Type 0} (b : Bool) (x y : X) → (if b then Some x else None) ≡ Some y
    → (b ≡ true) × (x ≡ y)
some_if true x y e = (refl, same_Some x y e)
some_if false x y e = absurd cc

parts_are_time : (secs nanos : List ℕ) (t : TaiTime) → time_of_parts secs nanos ≡ Some t → IsTai t
parts_are_time secs nanos t e =
    let is = some_if _ _ t e in
    let a = and_parts _ _ is.0 in
    let b = and_parts _ _ a.1 in
    let c = and_parts _ _ b.1 in
    subst IsTai is.1 (ltb-true _ secs_limit c.0, ltb-true _ second c.1)

is_time : (text : List ℕ) (t : TaiTime) → time_in text ≡ Some t → IsTai t
unfolding time_in
is_time text t e = elim (cases_Bool (list_any is_colon text)) [
  | inl has ↦ parts_are_time (secs_part text) (nanos_part text) t (rw has at e)
  | inr hasnt ↦ let none : None ≡ Some t = rw hasnt at e in absurd cc
]

time_read : (text : Option (List ℕ)) (t : TaiTime) → option_and_then time_in text ≡ Some t → IsTai t
time_read None t e = absurd cc
time_read (Some text) t e = is_time text t e

mapped_when : (made : TaiTime → When) → ((t : TaiTime) → IsTai t → IsWhen (made t))
    → (o : Option TaiTime) → ((t : TaiTime) → o ≡ Some t → IsTai t) → (w : When)
    → option_map made o ≡ Some w
    → IsWhen w
mapped_when made each None own w e = absurd cc
mapped_when made each (Some t) own w e = subst IsWhen (same_Some (made t) w e) (each t (own t refl))

-- what may be chosen is a time
abbrev AreWhen : Option When → Type 0
AreWhen o = (w : When) → o ≡ Some w → IsWhen w

read_by : {X : Type 0} (at : X → Option When) (p q r : Bool) (a b c y : X)
    → (if p then Some a else if q then Some b else if r then Some c else None) ≡ Some y
    → AreWhen (at a) → AreWhen (at b) → AreWhen (at c)
    → AreWhen (at y)
read_by at true q r a b c y e x1 x2 x3 w is = x1 w (ap at (same_Some a y e) ∙ is)
read_by at false true r a b c y e x1 x2 x3 w is = x2 w (ap at (same_Some b y e) ∙ is)
read_by at false false true a b c y e x1 x2 x3 w is = x3 w (ap at (same_Some c y e) ∙ is)
read_by at false false false a b c y e x1 x2 x3 w is = absurd cc

mode_ok : (activation : Data) (w : When)
    → or_fault (Shape Mode) (scheduling_at activation)
    (λ scheduling. or_fault (Shape Time) (when_at scheduling activation) (λ when. Ok when)) ≡ Ok w
    → IsWhen w
mode_ok activation w e =
    let how =
    or_fault_ok (Shape Mode) (scheduling_at activation)
    (λ scheduling. or_fault (Shape Time) (when_at scheduling activation) (λ when. Ok when)) w e in
    let when = or_fault_ok (Shape Time) (when_at how.0 activation) (λ when. Ok when) w how.2 in
    let text = then_some scheduling_in (text_at (codes "mode") activation) how.0 how.1 in
    read_by (λ (h : Scheduling). when_at h activation)
    (bytes_eq text.0 (codes "activate_immediate"))
    (bytes_eq text.0 (codes "activate_scheduled_absolute"))
    (bytes_eq text.0 (codes "activate_scheduled_relative"))
    Immediate Absolute Relative how.0 text.1
    (λ v is. subst IsWhen (same_Some Now v is) tt)
    (λ v is. mapped_when At (λ t own. own) (time_at activation)
    (λ t own. time_read (text_at (codes "requested_time") activation) t own) v is)
    (λ v is. mapped_when After (λ t own. own) (time_at activation)
    (λ t own. time_read (text_at (codes "requested_time") activation) t own) v is)
    w (when.1 ∙ ap Some (ok_same when.0 w when.2))

abbrev activation_in : Data → Result When BodyFault
activation_in activation =
    or_fault (Shape Mode) (scheduling_at activation)
    (λ scheduling. or_fault (Shape Time) (when_at scheduling activation) (λ when. Ok when))

when_ok : (d : Data) (w : When) → when_in d ≡ Ok w → IsWhen w
when_ok d w e =
    let top =
    or_fault_ok (Shape Top) (as_object d)
    (λ top. or_fault (Shape Activation) (object_at (codes "activation") d) activation_in) w e in
    let activation =
    or_fault_ok (Shape Activation) (object_at (codes "activation") d) activation_in w top.2 in
    mode_ok activation.0 w activation.2

when_same : (v w : When) (a b : List OutputChangeParts) → Activate v a ≡ Activate w b → v ≡ w
when_same v w a b e = cc

action_same : (v w : When) (a b : List OutputChangeParts) → Activate v a ≡ Activate w b → a ≡ b
action_same v w a b e = cc

-- an activation's action is that of a document
pub record IsRead (d : DeviceParts) (w : When) (a : List OutputChangeParts) : Type 0 where
  pub of : Data
  pub when : IsWhen w
  pub action_is : action_in d of ≡ a

pub body_read : (d : DeviceParts) (body : List ℕ) (w : When) (a : List OutputChangeParts)
    → request_by d body ≡ Ok (Activate w a)
    → IsRead d w a
body_read d body w a e =
    let doc = or_fault_ok NotJson (document body) (request_in d) (Activate w a) e in
    let when = and_then_ok (when_in doc.0) (activate_in d doc.0) (Activate w a) doc.2 in
    let act =
    or_fault_ok (Shape Action) (object_at (codes "action") doc.0)
    (λ action. unless_fault (action_fault d action) (Activate when.0 (action_in d action)))
    (Activate w a) when.2 in
    let same : Activate when.0 (action_in d act.0) ≡ Activate w a =
    unless_fault_ok (action_fault d act.0) (Activate when.0 (action_in d act.0))
    (Activate w a) act.2 in
    record {
      of = act.0;
      when =
          subst IsWhen (when_same when.0 w (action_in d act.0) a same)
          (when_ok doc.0 when.0 when.1);
      action_is = action_same when.0 w (action_in d act.0) a same;
    }

-- ---- cells

-- a cell of an input that is there, with a channel of one byte
abbrev pub IsCellRead : DeviceParts → Cell → Type 0
IsCellRead d Unrouted = Unit {0}
IsCellRead d (From input channel) = (input < length d.inputs) × (channel ≤ 255)

pub ok_some : {A : Type 0} (read : Result A BodyFault) (a : A) → result_ok read ≡ Some a
    → read ≡ Ok a
ok_some (Ok x) a e = ap Ok (same_Some x a e)
ok_some (Err fault) a e = absurd cc

position_low : {X : Type 0} (p : X → Bool) (xs : List X) (i : ℕ) → position p xs ≡ Some i
    → i < length xs
position_low p [] i e = absurd cc
position_low p (x ∷ xs) i e = (position-Some p (x ∷ xs) i x e).0

whole_low : (n : ℕ) (key : List ℕ) (of : Data) → whole_at 255 key of ≡ Some n → n ≤ 255
whole_low n key of e =
    let x = then_some (whole_in 255) (get key of) n e in
    let y = then_some (at_most 255) (option_and_then as_u64 (as_number x.0)) n x.1 in
    let z = some_if (nat_le y.0 255) y.0 n y.1 in
    omega (arith, leb-true y.0 255 z.0, z.1)

routed_ok : (d : DeviceParts) (of : Data) (c : Cell) → routed_in d of ≡ Ok c → IsCellRead d c
routed_ok d of c e =
    let id =
    or_fault_ok (Shape CellPlace) (text_at (codes "input") of)
    (λ id. or_fault (Shape CellPlace) (whole_at 255 (codes "channel_index") of)
    (λ channel. or_fault UnknownInput (input_number d id) (λ input. Ok (From input channel))))
    c e in
    let channel =
    or_fault_ok (Shape CellPlace) (whole_at 255 (codes "channel_index") of)
    (λ channel. or_fault UnknownInput (input_number d id.0) (λ input. Ok (From input channel)))
    c id.2 in
    let input =
    or_fault_ok UnknownInput (input_number d id.0)
    (λ input. Ok (From input channel.0)) c channel.2 in
    let within = position_low (λ i. bytes_eq i.id id.0) d.inputs input.0 input.1 in
    subst (IsCellRead d) (ok_same (From input.0 channel.0) c input.2)
    (within, whole_low channel.0 (codes "channel_index") of channel.1)

if_ok : {A : Type 0} (P : A → Type 0) (b : Bool) (x y : Result A BodyFault) (a : A)
    → ((c : A) → x ≡ Ok c → P c) → ((c : A) → y ≡ Ok c → P c) → (if b then x else y) ≡ Ok a
    → P a
if_ok P true x y a one two e = one a e
if_ok P false x y a one two e = two a e

none_ok : {A : Type 0} (P : A → Type 0) (fault : BodyFault) (a : A) → AreSame (Err fault) (Ok a)
    → P a
none_ok P fault a e = absurd cc

-- what is read as a cell
pub cell_read : (d : DeviceParts) (of : Data) (c : Cell) → cell_in d of ≡ Ok c → IsCellRead d c
cell_read d of c e =
    if_ok (IsCellRead d) (not (is_some (as_object of))) (Err (Shape CellPlace))
    (if is_null_at (codes "input") of && is_null_at (codes "channel_index") of
    then Ok Unrouted else routed_in d of) c
    (λ made is. none_ok (IsCellRead d) (Shape CellPlace) made is)
    (λ made is.
    if_ok (IsCellRead d) (is_null_at (codes "input") of && is_null_at (codes "channel_index") of)
    (Ok Unrouted) (routed_in d of) made
    (λ cell own. subst (IsCellRead d) (ok_same Unrouted cell own) tt)
    (λ cell own. routed_ok d of cell own) is) e
