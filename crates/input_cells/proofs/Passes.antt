-- A pass with a seat at each input: what one of its seats does.
use Rattle.std.proofs.Common.{◌≡◌, ℕ, zero, suc, ◌<◌, List, [], ◌∷◌, length, map, get_or, set, refl}
use Rattle.std.proofs.Common.{sym, ap, ◌∙◌, subst, arith}
use Rattle.std.proofs.lemmas.List.{length-map}
use Rattle.input_rule.specs.declared.view.Shape.{Shape}
use Rattle.input_rule.specs.declared.view.View.{View}
use Rattle.input_cells.specs.Faces.{HasShape, HasView, InputFace, IsReadOf, SeatFace, changed}
use Rattle.input_cells.specs.Faces.{face_of}

pub as_many : (table : List InputFace) (pass : List SeatFace) → IsReadOf table pass
    → length pass ≡ length table
as_many table pass is = sym (length-map pass face_of) ∙ ap (λ (l : List InputFace). length l) is

seat_face : (pass : List SeatFace) (i : ℕ) (d : SeatFace) (e : InputFace) → i < length pass
    → face_of (get_or pass i d) ≡ get_or (map face_of pass) i e
seat_face [] i d e lt = absurd (omega arith)
seat_face (p ∷ ps) zero d e lt = refl
seat_face (p ∷ ps) (suc i) d e lt = seat_face ps i d e (omega arith)

-- the seat and the table at an input fit
pub face_at : (table : List InputFace) (pass : List SeatFace) (i : ℕ) (d : SeatFace) (e : InputFace)
    → IsReadOf table pass → i < length table → face_of (get_or pass i d) ≡ get_or table i e
face_at table pass i d e is lt = seat_face pass i d e (let l = as_many table pass is in omega arith)
    ∙ ap (λ (l : List InputFace). get_or l i e) is

module _ (f : View → View) where
  pub set_changed : (pass : List SeatFace) (i : ℕ) (d new : SeatFace) → i < length pass
      → new ≡ record (get_or pass i d) { view = f (get_or pass i d).view }
      → set pass i new ≡ changed f i pass
  set_changed [] i d new lt is = absurd (omega arith)
  set_changed (p ∷ ps) zero d new lt is = λ k. is k ∷ ps
  set_changed (p ∷ ps) (suc i) d new lt is = λ k. p ∷ set_changed ps i d new (omega arith) is k

  pub changed_faces : ((v : View) → (f v).shape ≡ v.shape) → (i : ℕ) (pass : List SeatFace)
      → map face_of (changed f i pass) ≡ map face_of pass
  changed_faces same i [] = refl
  changed_faces same zero (p ∷ ps) = λ k. record { id = p.id; shape = same p.view k } ∷ map face_of
      ps
  changed_faces same (suc i) (p ∷ ps) = λ k. face_of p ∷ changed_faces same i ps k

pub shape_had : (P : Shape → Type 0) (table : List InputFace) (i : ℕ) (d : InputFace)
    → HasShape table i P → P (get_or table i d).shape
shape_had P [] i d h = absurd h
shape_had P (t ∷ ts) zero d h = h
shape_had P (t ∷ ts) (suc i) d h = shape_had P ts i d h

module _ (P : View → Type 0) where
  pub view_at : (pass : List SeatFace) (i : ℕ) (d : SeatFace) → HasView pass i P
      → P (get_or pass i d).view
  view_at [] i d h = absurd h
  view_at (p ∷ ps) zero d h = h
  view_at (p ∷ ps) (suc i) d h = view_at ps i d h

  pub has_view : (pass : List SeatFace) (i : ℕ) (d : SeatFace) → i < length pass
      → P (get_or pass i d).view → HasView pass i P
  has_view [] i d lt h = absurd (omega arith)
  has_view (p ∷ ps) zero d lt h = h
  has_view (p ∷ ps) (suc i) d lt h = has_view ps i d (omega arith) h

-- ---- as a call finds them: a list of seats that is a pass's, and the seat at the input

pub inside : (table : List InputFace) (pass : List SeatFace) (i : ℕ) → IsReadOf table pass
    → i < length table → i < length pass
inside table pass i is lt = let l = as_many table pass is in omega arith

pub one_changed : (f : View → View) (seats pass : List SeatFace) (i : ℕ) (seat new : SeatFace)
    → seats ≡ pass → i < length pass → seat ≡ get_or seats i seat
    → new ≡ record seat { view = f seat.view } → set seats i new ≡ changed f i pass
one_changed f seats pass i seat new same lt here is =
    let at : seat ≡ get_or pass i seat = here ∙ ap (λ (l : List SeatFace). get_or l i seat) same in
    ap (λ (l : List SeatFace). set l i new) same
    ∙ set_changed f pass i seat new lt
    (is ∙ ap (λ (z : SeatFace). record z { view = f z.view }) at)

pub one_has : (P : View → Type 0) (seats pass : List SeatFace) (i : ℕ) (seat : SeatFace)
    → seats ≡ pass → i < length pass → seat ≡ get_or seats i seat → P seat.view → HasView pass i P
one_has P seats pass i seat same lt here h =
    has_view P pass i seat lt
    (subst (λ (z : SeatFace). P z.view)
    (here ∙ ap (λ (l : List SeatFace). get_or l i seat) same) h)

pub one_had : (P : View → Type 0) (seats pass : List SeatFace) (i : ℕ) (seat : SeatFace)
    → seats ≡ pass → seat ≡ get_or seats i seat → HasView pass i P → P seat.view
one_had P seats pass i seat same here h =
    subst (λ (z : SeatFace). P z.view)
    (sym (here ∙ ap (λ (l : List SeatFace). get_or l i seat) same)) (view_at P pass i seat h)

pub one_read : (f : View → View) → ((v : View) → (f v).shape ≡ v.shape)
    → (table : List InputFace) (pass seats : List SeatFace) (i : ℕ) → IsReadOf table pass
    → seats ≡ changed f i pass → IsReadOf table seats
one_read f kept table pass seats i is same = ap (λ (l : List SeatFace). map face_of l) same
    ∙ (changed_faces f kept i pass ∙ is)

-- the seat fits the table at its input
pub one_fits : (tables table : List InputFace) (seats pass : List SeatFace) (i : ℕ)
    (one : InputFace) (seat : SeatFace) → tables ≡ table → seats ≡ pass → IsReadOf table pass
    → i < length table
    → one ≡ get_or tables i one → seat ≡ get_or seats i seat → face_of seat ≡ one
one_fits tables table seats pass i one seat t s is lt at here =
    ap face_of (here ∙ ap (λ (l : List SeatFace). get_or l i seat) s)
    ∙ (face_at table pass i seat one is lt
    ∙ sym (at ∙ ap (λ (l : List InputFace). get_or l i one) t))

-- what holds of the shape at the input
pub one_shape : (P : Shape → Type 0) (tables table : List InputFace) (i : ℕ) (one : InputFace)
    → tables ≡ table → one ≡ get_or tables i one → HasShape table i P → P one.shape
one_shape P tables table i one t at h =
    subst (λ (z : InputFace). P z.shape) (sym (at ∙ ap (λ (l : List InputFace). get_or l i one) t))
    (shape_had P table i one h)

-- what the seat knows afterwards
pub set_has : (P : View → Type 0) (seats : List SeatFace) (i : ℕ) (new : SeatFace)
    → i < length seats → P new.view → HasView (set seats i new) i P
set_has P [] i new lt h = absurd (omega arith)
set_has P (p ∷ ps) zero new lt h = h
set_has P (p ∷ ps) (suc i) new lt h = set_has P ps i new (omega arith) h

pub shape_there : (P : Shape → Type 0) (tables table : List InputFace) (i : ℕ) (one : InputFace)
    → tables ≡ table → i < length table → one ≡ get_or tables i one → P one.shape
    → HasShape table i P
shape_there P tables table i one t lt at h =
    has_shape table i lt
    (subst (λ (z : InputFace). P z.shape) (at ∙ ap (λ (l : List InputFace). get_or l i one) t) h)
  where
    has_shape : (ts : List InputFace) (k : ℕ) → k < length ts → P (get_or ts k one).shape
        → HasShape ts k P
    has_shape [] k lt h = absurd (omega arith)
    has_shape (t ∷ ts) zero lt h = h
    has_shape (t ∷ ts) (suc k) lt h = has_shape ts k (omega arith) h
