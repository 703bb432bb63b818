-- The resources of the API, by the paths that they have. (AMWA IS-08 v1.0.) A part is any text
-- between two slashes that is not empty.
use Rattle.std.specs.Prelude.{ℕ, List, [], ◌∷◌, ◌++◌, codes}
use Rattle.matchit.specs.Rows.{RowsOf}
use Rattle.api_routes.specs.declared.routes.Route.{Route}
use Rattle.api_routes.specs.declared.routes.Route.TheVariants.{Slash, Nmos, Mapping, Version}
use Rattle.api_routes.specs.declared.routes.Route.TheVariants.{Inputs, Outputs, OfInput, OfOutput}
use Rattle.api_routes.specs.declared.routes.Route.TheVariants.{Map, Activations, Activation, Active}
use Rattle.api_routes.specs.declared.routes.Route.TheVariants.{ActiveOutput, Io}
use Rattle.api_routes.specs.declared.routes.InputPart.TheVariants as input
use Rattle.api_routes.specs.declared.routes.OutputPart.TheVariants as output

-- a part that an id stands for
abbrev pub part : List ℕ
part = 256 ∷ []

-- a path under the version's
abbrev pub under : List ℕ → List ℕ
under tail = codes "/x-nmos/channelmapping/v1.0" ++ tail

-- each resource with its path; a longer path stands before one that it begins with
unfoldable pub resources : RowsOf Route
resources =
    (under (codes "/inputs/" ++ part ++ codes "/caps"), OfInput input.Caps)
    ∷ (under (codes "/inputs/" ++ part ++ codes "/channels"), OfInput input.Channels)
    ∷ (under (codes "/inputs/" ++ part ++ codes "/parent"), OfInput input.Parent)
    ∷ (under (codes "/inputs/" ++ part ++ codes "/properties"), OfInput input.Properties)
    ∷ (under (codes "/inputs/" ++ part), OfInput input.Names)
    ∷ (under (codes "/inputs"), Inputs)
    ∷ (under (codes "/io"), Io)
    ∷ (under (codes "/map/activations/" ++ part), Activation)
    ∷ (under (codes "/map/activations"), Activations)
    ∷ (under (codes "/map/active/" ++ part), ActiveOutput)
    ∷ (under (codes "/map/active"), Active)
    ∷ (under (codes "/map"), Map)
    ∷ (under (codes "/outputs/" ++ part ++ codes "/caps"), OfOutput output.Caps)
    ∷ (under (codes "/outputs/" ++ part ++ codes "/channels"), OfOutput output.Channels)
    ∷ (under (codes "/outputs/" ++ part ++ codes "/properties"), OfOutput output.Properties)
    ∷ (under (codes "/outputs/" ++ part ++ codes "/sourceid"), OfOutput output.SourceId)
    ∷ (under (codes "/outputs/" ++ part), OfOutput output.Names)
    ∷ (under (codes "/outputs"), Outputs)
    ∷ (under [], Version)
    ∷ (codes "/x-nmos/channelmapping", Mapping)
    ∷ (codes "/x-nmos", Nmos)
    ∷ (codes "/", Slash)
    ∷ []
