-- What a request comes to, before the book is asked. (After AMWA IS-08 v1.0 and RFC 9110; the order
-- of the refusals is this project's own.)
use Rattle.std.specs.Prelude.{ℕ, List, Bool, true, false, Option, Some, None, Result, Ok, Err}
use Rattle.std.specs.Prelude.{if◌then◌else◌}
use Rattle.io_caps.specs.declared.device.DeviceParts.{DeviceParts}
use Rattle.http_wire.specs.declared.request.HttpRequest.{HttpRequest}
use Rattle.http_wire.specs.declared.request.Method.{Method}
use Rattle.http_wire.specs.declared.request.Method.TheVariants.{Get, Post, Delete as DeleteMethod}
use Rattle.http_wire.specs.declared.request.Method.TheVariants.{Options}
use Rattle.http_wire.specs.declared.response.Extra.{Extra}
use Rattle.http_wire.specs.declared.response.Extra.TheVariants.{AllowGet, AllowPost, AllowDelete}
use Rattle.book_words.specs.declared.requests.Request.{Request}
use Rattle.book_words.specs.declared.requests.Request.TheVariants.{Delete, Active as AskActive}
use Rattle.book_words.specs.declared.requests.Request.TheVariants.{Pending as AskPending}
use Rattle.channel_json.specs.declared.faults.BodyFault.{BodyFault}
use Rattle.channel_json.specs.Requests.{request_by}
use Rattle.channel_json.specs.Resources.{IsThere}
use Rattle.api_routes.specs.declared.routes.Route.{Route}
use Rattle.api_routes.specs.declared.routes.Route.TheVariants.{Activations, Activation}
use Rattle.api_routes.specs.declared.targets.Target.{Target}
use Rattle.api_routes.specs.declared.targets.Target.TheVariants.{Fixed, AllPending, OnePending}
use Rattle.api_routes.specs.declared.targets.Target.TheVariants.{Rows}
use Rattle.api_routes.specs.declared.wrong.ApiFault.TheVariants.{NoResource, NoMethod, Body}
use Rattle.api_routes.specs.declared.plan.Part.TheVariants.{Whole, Item, Row}
use Rattle.api_routes.specs.declared.plan.Plan.{Plan}
use Rattle.api_routes.specs.declared.plan.Plan.TheVariants.{Preflight, Refuse, Show, Ask}
use Rattle.http_wire.specs.Response.{IsStatus}
use Rattle.api_routes.specs.Wrongs.{status_of}
use Rattle.api_routes.specs.Targets.{cut_path, route_of, target_of}

-- ---- methods

-- the methods that a resource has, as a response tells them
abbrev pub methods_of : Route → Extra
methods_of Activations = AllowPost
methods_of Activation = AllowDelete
methods_of route = AllowGet

-- whether a method is among them
abbrev pub has_method : Extra → Method → Bool
has_method methods Get = true
has_method AllowPost Post = true
has_method AllowDelete DeleteMethod = true
has_method methods method = false

-- ---- what is asked

-- what a posted activation comes to
abbrev pub posted : Result Request BodyFault → Plan
posted (Ok request) = Ask request Whole
posted (Err fault) = Refuse (Body fault)

-- what a request comes to that has a method of what its path leads to
abbrev pub plan_at : DeviceParts → Target → Method → List ℕ → Plan
plan_at device (Fixed resource) method body = Show resource
plan_at device AllPending Post body = posted (request_by device body)
plan_at device AllPending method body = Ask AskPending Whole
plan_at device (OnePending id) DeleteMethod body = Ask (Delete id) Whole
plan_at device (OnePending id) method body = Ask AskPending (Item id)
plan_at device (Rows None) method body = Ask AskActive Whole
plan_at device (Rows (Some output)) method body = Ask AskActive (Row output)

-- where what the path names is not there
abbrev pub plan_target : DeviceParts → Option Target → Method → List ℕ → Plan
plan_target device None method body = Refuse NoResource
plan_target device (Some target) method body = plan_at device target method body

-- where the path has no resource, or that has no such method
abbrev pub plan_route : DeviceParts → Option Route → List ℕ → Method → List ℕ → Plan
plan_route device None path method body = Refuse NoResource
plan_route device (Some route) path method body =
    if has_method (methods_of route) method
    then plan_target device (target_of device route path) method body
    else Refuse (NoMethod (methods_of route))

-- a request for a path without its trailing slash
abbrev pub plan_path : DeviceParts → List ℕ → Method → List ℕ → Plan
plan_path device path method body = plan_route device (route_of path) path method body

-- whether what is allowed is asked for, which is answered on any path
abbrev pub is_options : Method → Bool
is_options Options = true
is_options method = false

-- what a request comes to
abbrev pub plan_of : DeviceParts → HttpRequest → Plan
plan_of device http =
    if is_options http.method then Preflight
    else plan_path device (cut_path http.path) http.method http.body

-- the request with which a plan asks the book
abbrev pub asked_by : Plan → Option Request
asked_by (Ask request part) = Some request
asked_by plan = None

-- the request with which the book is asked, or none where it is not
abbrev pub request_asked : DeviceParts → HttpRequest → Option Request
request_asked device http = asked_by (plan_of device http)

-- the input or output of a resource that is shown is there, and what is refused has a status
abbrev pub IsPlanOk : DeviceParts → Plan → Type 0
IsPlanOk device (Show resource) = IsThere device resource
IsPlanOk device (Refuse wrong) = IsStatus (status_of wrong)
IsPlanOk device plan = Unit {0}
