-- What a request can ask of the book.
use Rattle.std.proofs.Common.{◌≡◌, ℕ, Bool, true, false, List, Option, Some, None, Ok, Err, inl, inr, ◌⊎◌, refl, ap, subst, ◌∙◌}
use Rattle.std.specs.Prelude.{Result}
use Rattle.std.proofs.lemmas.Bool.{cases_Bool}
use Rattle.std.proofs.lemmas.Option.{same_Some}
use Rattle.io_caps.specs.declared.device.DeviceParts.{DeviceParts}
use Rattle.http_wire.specs.declared.request.HttpRequest.{HttpRequest}
use Rattle.http_wire.specs.declared.request.Method.{Method}
use Rattle.http_wire.specs.declared.request.Method.TheVariants.{Get, Post, Delete as DeleteMethod, Options, Other}
use Rattle.book_words.specs.Calls.{is_activation}
use Rattle.book_words.specs.declared.requests.Request.{Request}
use Rattle.book_words.specs.declared.requests.Request.TheVariants.{Delete, Active as AskActive, Pending as AskPending}
use Rattle.channel_json.specs.Requests.{request_by}
use Rattle.channel_json.specs.declared.faults.BodyFault.{BodyFault}
use Rattle.api_routes.specs.Plan.{asked_by, has_method, is_options, methods_of, plan_at, plan_of, plan_path, plan_route, plan_target, posted, request_asked}
use Rattle.api_routes.specs.Targets.{cut_path, route_of, target_of}
use Rattle.api_routes.specs.declared.routes.Route.{Route}
use Rattle.api_routes.specs.declared.targets.Target.{Target}
use Rattle.api_routes.specs.declared.targets.Target.TheVariants.{Fixed, AllPending, OnePending, Rows}

-- what asks the book is an activation that was read of the body, or no activation
abbrev pub MayAsk : DeviceParts → List ℕ → Request → Type 0
MayAsk d body r = (is_activation r ≡ false) ⊎ (request_by d body ≡ Ok r)

no_activation : (d : DeviceParts) (body : List ℕ) (q r : Request) → is_activation q ≡ false → Some q ≡ Some r → MayAsk d body r
no_activation d body q r none e = inl (subst (λ (x : Request). is_activation x ≡ false) (same_Some q r e) none)

posted_asks : (d : DeviceParts) (body : List ℕ) (read : Result Request BodyFault) (r : Request) → request_by d body ≡ read
    → asked_by (posted read) ≡ Some r → MayAsk d body r
posted_asks d body (Ok q) r is e = inr (is ∙ ap Ok (same_Some q r e))
posted_asks d body (Err fault) r is e = absurd cc

plan_asks : (d : DeviceParts) (target : Target) (method : Method) (body : List ℕ) (r : Request)
    → asked_by (plan_at d target method body) ≡ Some r → MayAsk d body r
plan_asks d (Fixed resource) method body r e = absurd cc
plan_asks d AllPending Post body r e = posted_asks d body (request_by d body) r refl e
plan_asks d AllPending Get body r e = no_activation d body AskPending r refl e
plan_asks d AllPending DeleteMethod body r e = no_activation d body AskPending r refl e
plan_asks d AllPending Options body r e = no_activation d body AskPending r refl e
plan_asks d AllPending Other body r e = no_activation d body AskPending r refl e
plan_asks d (OnePending id) DeleteMethod body r e = no_activation d body (Delete id) r refl e
plan_asks d (OnePending id) Get body r e = no_activation d body AskPending r refl e
plan_asks d (OnePending id) Post body r e = no_activation d body AskPending r refl e
plan_asks d (OnePending id) Options body r e = no_activation d body AskPending r refl e
plan_asks d (OnePending id) Other body r e = no_activation d body AskPending r refl e
plan_asks d (Rows None) method body r e = no_activation d body AskActive r refl e
plan_asks d (Rows (Some output)) method body r e = no_activation d body AskActive r refl e

target_asks : (d : DeviceParts) (target : Option Target) (method : Method) (body : List ℕ) (r : Request)
    → asked_by (plan_target d target method body) ≡ Some r → MayAsk d body r
target_asks d None method body r e = absurd cc
target_asks d (Some target) method body r e = plan_asks d target method body r e

route_asks : (d : DeviceParts) (route : Option Route) (path : List ℕ) (method : Method) (body : List ℕ) (r : Request)
    → asked_by (plan_route d route path method body) ≡ Some r → MayAsk d body r
route_asks d None path method body r e = absurd cc
route_asks d (Some route) path method body r e = elim (cases_Bool (has_method (methods_of route) method)) [
  | inl has ↦ target_asks d (target_of d route path) method body r (rw has at e)
  | inr hasnt ↦ let none : None ≡ Some r = rw hasnt at e in absurd cc
]

-- what a request asks of the book
pub http_asks : (d : DeviceParts) (http : HttpRequest) (r : Request) → request_asked d http ≡ Some r → MayAsk d http.body r
http_asks d http r e = elim (cases_Bool (is_options http.method)) [
  | inl is ↦ let none : None ≡ Some r = rw is at e in absurd cc
  | inr isnt ↦ route_asks d (route_of (cut_path http.path)) (cut_path http.path) http.method http.body r (rw isnt at e)
]
