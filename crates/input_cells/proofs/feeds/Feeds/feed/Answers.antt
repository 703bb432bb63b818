use Rattle.std.proofs.Common.{◌≡◌, ◌<◌, ◌∙◌, List, length, map, false, true, get_or, sym, ap, subst}
use Rattle.std.proofs.Common.{arith, ◌↔◌}
use Rattle.std.specs.Prelude.{Bool, IfOk, IsErr, Some, slice_get, slice_set}
use Rattle.input_cells.specs.Faces.{FeedsFace, InputFace, IsFeedOf, face_of}
use Rattle.input_cells.specs.contracts.feeds.Feeds.{the_view}
use Rattle.input_cells.proofs.Giving.{as_kept, given_after, given_err, given_input, given_pass}
use Rattle.input_cells.proofs.Giving.{given_unfed, kept_after, on_ok}
use Rattle.input_cells.proofs.feeds.Feeds.feed.Goals as goal

pub index_mut-requires : goal.index_mut-requires
index_mut-requires c =
    let table : map face_of c.self.inside.spare ≡ c.args.table.now =
    ap (λ (z : FeedsFace). z.table) c.self.view_is ∙ c.requires.table in
    let few = as_kept _ _ c.self.invariant.feeders_are in
    let same = ap (λ (l : List InputFace). length l) table in let lt = c.requires.input in
    let v = c.self.inside.feeders.ok.0 in omega arith

pub invariant_of-self : goal.invariant_of-self
invariant_of-self c =
    let i = c.self.invariant in record {
      spare_is = i.spare_is;
      feeders_are = kept_after (map face_of c.self.inside.spare) c.self.inside.feeders.items
          c.args.input _ c.self.invariant.feeders_are
          (subst (λ (l : List InputFace). c.args.input < length l)
          (sym (ap (λ (z : FeedsFace). z.table) c.self.view_is ∙ c.requires.table))
          c.requires.input) c.index_mut.ensures.value c.take_pass.new.place
          c.take_pass.ensures.after;
      readers_are = i.readers_are;
      few = i.few;
      numbered = i.numbered;
    }

pub returns-clause-err : goal.returns-clause-err
returns-clause-err c =
    subst (λ (z : FeedsFace). IsErr c.take_pass.result ↔ (get_or z.given c.args.input false ≡ true))
    c.self.view_is
    (given_err (map face_of c.self.inside.spare) c.self.inside.feeders.items c.args.input _
    c.self.invariant.feeders_are
    (subst (λ (l : List InputFace). c.args.input < length l)
    (sym (ap (λ (z : FeedsFace). z.table) c.self.view_is ∙ c.requires.table)) c.requires.input)
    c.index_mut.ensures.value c.take_pass.result c.take_pass.ensures.ok c.take_pass.ensures.err)

pub returns-clause-input : goal.returns-clause-input
returns-clause-input c =
    subst (λ (l : List InputFace).
    IfOk c.take_pass.result (λ p. slice_get l c.args.input ≡ Some (face_of p)))
    (ap (λ (z : FeedsFace). z.table) c.self.view_is ∙ c.requires.table)
    (given_input (map face_of c.self.inside.spare) c.self.inside.feeders.items c.args.input _
    c.self.invariant.feeders_are
    (subst (λ (l : List InputFace). c.args.input < length l)
    (sym (ap (λ (z : FeedsFace). z.table) c.self.view_is ∙ c.requires.table)) c.requires.input)
    c.index_mut.ensures.value c.take_pass.result c.take_pass.ensures.ok)

pub returns-clause-pass : goal.returns-clause-pass
returns-clause-pass c = subst (λ (l : List InputFace). IfOk c.take_pass.result (IsFeedOf l))
    (ap (λ (z : FeedsFace). z.table) c.self.view_is ∙ c.requires.table)
    (given_pass (map face_of c.self.inside.spare) c.self.inside.feeders.items c.args.input _
    c.self.invariant.feeders_are
    (subst (λ (l : List InputFace). c.args.input < length l)
    (sym (ap (λ (z : FeedsFace). z.table) c.self.view_is ∙ c.requires.table)) c.requires.input)
    c.index_mut.ensures.value c.take_pass.result c.self.invariant.numbered
    c.take_pass.ensures.ok)

pub returns-clause-unfed : goal.returns-clause-unfed
returns-clause-unfed c = given_unfed (map face_of c.self.inside.spare) c.self.inside.feeders.items
    c.args.input _ c.self.invariant.feeders_are
    (subst (λ (l : List InputFace). c.args.input < length l)
    (sym (ap (λ (z : FeedsFace). z.table) c.self.view_is ∙ c.requires.table)) c.requires.input)
    c.index_mut.ensures.value c.take_pass.result c.take_pass.ensures.ok

pub returns-clause-given : goal.returns-clause-given
returns-clause-given c = on_ok c.take_pass.result
    (ap (λ (g : List Bool). record (the_view c.self.inside) { given = g })
    (given_after c.self.inside.feeders.items c.args.input c.take_pass.new.place
    c.take_pass.ensures.after)
    ∙ ap (λ (z : FeedsFace). record z { given = slice_set z.given c.args.input true })
    c.self.view_is)
