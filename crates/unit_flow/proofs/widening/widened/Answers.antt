use Rattle.std.proofs.Common.{◌≡◌, ◌++◌, replicate, false, ◌<◌, ℕ, [], ◌∷◌, length, map, IfSome, IfNone, arith, refl, sym, ap, ◌∙◌, subst}
use Rattle.unit_flow.specs.declared.arrays.Reached.{Reached}
use Rattle.tomo_base.proofs.Lists.{lent_back}
use Rattle.unit_flow.specs.Flows.{last_of}
use Rattle.unit_flow.specs.Steps.{entry_of, node_at, via_at}
use Rattle.unit_flow.specs.Search.{asked, IsNear, IsDone, IsHit, Reaching}
use Rattle.unit_flow.proofs.OneWidening.{Found, Ends, paths_below, paths_whole, loaded_arcs, reached_cut, last_ends}
use Rattle.unit_flow.proofs.Loads.{ends_same}
use Rattle.unit_flow.proofs.Reaches.{reaching_start}
use Rattle.unit_flow.proofs.widening.widened.Goals.{After-deref-4}
use Rattle.unit_flow.proofs.widening.widened.Goals as goal

pub load_paths-requires-clause-inside : goal.load_paths-requires-clause-inside
load_paths-requires-clause-inside c =
    let below = paths_below (asked c.args.g.now c.args.ask.now) c.requires.asked.task c.args.paths.now c.requires.flow in
    λ k d l i e at. omega (arith, below k d l i e at, c.nodes-count.ensures.nodes)

pub load_paths-requires-clause-whole : goal.load_paths-requires-clause-whole
load_paths-requires-clause-whole c = paths_whole (asked c.args.g.now c.args.ask.now) c.requires.asked.task c.args.paths.now c.requires.flow

pub search-requires-clause-over : goal.search-requires-clause-over
search-requires-clause-over c = record {
  asked = c.requires.asked;
  array = record {
    size = ap (λ z. length z) c.deref.ensures.value ∙ c.in_ok-before.ensures.size ∙ c.nodes-count.ensures.nodes;
    arcs = loaded_arcs (asked c.args.g.now c.args.ask.now) c.requires.asked.task c.args.paths.now c.requires.flow c.in_ok-before.before.items c.in_ok-before.ensures.loaded c.deref.ensures.value;
  };
}

pub search-requires-clause-reaching : goal.search-requires-clause-reaching
search-requires-clause-reaching c =
    let t = asked c.args.g.now c.args.ask.now in
    let first : Reached = record { node = c.args.ask.now.source; from = 0; via = c.args.ask.now.source } in
    let bare : c.in_ok-seen.seen.items ≡ replicate t.graph.nodes false = c.in_ok-seen.ensures.items_if_clones_equal (λ y h. h) ∙ ap (λ n. replicate n false) c.nodes-count.ensures.nodes in
    let one : c.push.new.self.items ≡ first ∷ [] = c.in_ok-push.ensures.items ∙ ap (λ z. z ++ first ∷ []) c.in_ok-queue.ensures.items in
    reaching_start t c.requires.asked.task (entry_of c.deref.result.now) c.in_ok-seen.seen.items c.push.new.self.items bare one

pub returns-in_default : goal.returns-in_default
returns-in_default c =
    let t = asked c.args.g.now c.args.ask.now in
    let seen = c.search.new.seen.items in
    let queue = c.search.new.queue.items in
    let reaching : Reaching t (entry_of c.deref.result.now) seen queue = c.in_ok-hit.ensures.reaching in
    let none = subst (λ o. IfNone o ((k : ℕ) → k < length queue → IsDone t (entry_of c.deref.result.now) seen (node_at queue k))) c.in_default.is c.in_ok-hit.ensures.none in
    (reaching.size, reached_cut t c.requires.asked.task c.args.paths.now c.requires.flow c.in_ok-before.before.items c.in_ok-before.ensures.loaded c.deref.ensures.value reaching none)

pub follow-requires-clause-room : goal.follow-requires-clause-room
follow-requires-clause-room c = λ k l.
    let lent : c.deref_mut.result.now ≡ c.in_ok-before.before.items = c.deref_mut.ensures.value in
    let read : c.deref-2.result.now ≡ c.search.new.queue.items = c.deref-2.ensures.value in
    let room = subst (λ z. (k : ℕ) → k < length z → via_at z k < c.args.g.now.nodes) (sym read) c.in_ok-hit.ensures.reaching.over in
    omega (arith, room k l, ap (λ z. length z) lent, c.in_ok-before.ensures.size, c.nodes-count.ensures.nodes)

pub ends_of-requires : goal.ends_of-requires
ends_of-requires c = paths_whole (asked c.args.g.now c.args.ask.now) c.requires.asked.task c.args.paths.now c.requires.flow

-- the array and the ends that are read back
ends : (c : After-deref-4) → Ends (asked c.args.g.now c.args.ask.now) (map (λ p. p.items) c.args.paths.now) c.deref-3.result.now c.deref-4.result.now
ends c =
    let t = asked c.args.g.now c.args.ask.now in
    let before = c.in_ok-before.before in
    let last = c.follow.new.before in
    let hit = c.in-Some.hit in
    let queue = c.search.new.queue.items in
    let found : Found t (entry_of c.deref.result.now) c.search.new.seen.items queue hit.place hit.target = record {
      reaching = c.in_ok-hit.ensures.reaching;
      inside = subst (λ o. IfSome o (λ h. h.place < length queue)) c.in-Some.is c.in_ok-hit.ensures.place;
      near = subst (λ o. IfSome o (λ h. IsNear t (node_at queue h.place) h.target)) c.in-Some.is c.in_ok-hit.ensures.near;
      hit = subst (λ o. IfSome o (λ h. IsHit t (entry_of c.deref.result.now) h.target)) c.in-Some.is c.in_ok-hit.ensures.hit;
    } in
    let lent : c.deref_mut.result.now ≡ before.items = c.deref_mut.ensures.value in
    let size : length last ≡ before.len = omega (arith, c.follow.ensures.same_length, ap (λ z. length z) lent, before.ok) in
    let read : c.deref-3.result.now ≡ last = c.deref-3.ensures.value ∙ lent_back before.len last before.items size in
    let targets : c.deref-4.result.now ≡ hit.target ∷ map last_of (map (λ p. p.items) c.args.paths.now) = c.deref-4.ensures.value ∙ c.in_ok-ends.ensures ∙ ap (λ z. hit.target ∷ z) (ends_same c.args.paths.now) in
    last_ends t c.requires.asked.task c.args.paths.now c.requires.flow before.items c.in_ok-before.ensures.loaded c.deref.ensures.value lent c.deref-2.ensures.value found (c.follow.ensures.followed t)
    read (omega (arith, size, before.ok, c.in_ok-before.ensures.size, c.nodes-count.ensures.nodes)) targets

pub read_back-requires-clause-inside : goal.read_back-requires-clause-inside
read_back-requires-clause-inside c = (ends c).inside

pub read_back-requires-clause-room : goal.read_back-requires-clause-room
read_back-requires-clause-room c = (ends c).room

pub returns : goal.returns
returns c =
    let e = ends (goal.at.returns c).After-deref-4 in
    e.wider (map (λ p. p.items) c.in_ok-read_back.field-0.items) (c.in_ok-read_back.ensures (asked c.args.g.now c.args.ask.now) c.requires.asked.task refl (sym e.nodes) e.arcs e.apart e.stands)
