-- One widening over plain lists: what it begins with, and that what is read back at its end is a flow of one path more.
use Rattle.std.proofs.Common.{ℕ, ◌<◌, ◌≤◌, ◌≡◌, Bool, true, List, [], ◌∷◌, map, length, get_or, All, Vec, sym, ap, subst, ◌∙◌, arith, inl, inr, Option, Some, None}
use Rattle.std.specs.Global.{Global}
use Rattle.std.proofs.lemmas.Bool.{both_ways, eqb-true}
use Rattle.std.specs.List.{AllByRecursion}
use Rattle.std.proofs.lemmas.List.{get_or-map, length-map}
use Rattle.std.proofs.lemmas.List.Elements.{All-from_recursion, recursion_from_All}
use Rattle.tomo_base.specs.Network.{linked}
use Rattle.tomo_base.specs.Search.{mark_of}
use Rattle.tomo_base.specs.Walks.{NoneTwice}
use Rattle.unit_flow.specs.declared.arrays.Reached.{Reached}
use Rattle.unit_flow.specs.Flows.{Task, IsTask, LeadsFrom, IsRoute, IsFlow, IsWider, IsLeastCut, second_of, last_of}
use Rattle.unit_flow.specs.Arrays.{put, load_all}
use Rattle.unit_flow.specs.Steps.{entry_of, node_at, ArcsFor, IsQueue, Followed, Stands, ReadsPaths}
use Rattle.unit_flow.specs.Search.{IsNear, IsDone, IsHit, Reaching}
use Rattle.unit_flow.proofs.Back.{on_low}
use Rattle.unit_flow.proofs.Law.{array_of, array_arcs, ending}
use Rattle.unit_flow.proofs.Links.{jb}
use Rattle.std.proofs.Math.Path.{fun_ext}
use Rattle.unit_flow.proofs.Results.{stuck_cut}

-- what the search found: a free target near the node at a place of the queue
pub record Found (t : Task) (f : ℕ → Option ℕ) (seen : List Bool) (queue : List Reached) (place target : ℕ) : Type 0 where
  pub reaching : Reaching t f seen queue
  pub inside : place < length queue
  pub near : IsNear t (node_at queue place) target
  pub hit : IsHit t f target

-- an array and ends: what is read back from them is a flow of one path more
pub record Ends (t : Task) (old : List (List ℕ)) (arr : List (Option ℕ)) (ends : List ℕ) : Type 0 where
  pub nodes : length arr ≡ t.graph.nodes
  pub arcs : ArcsFor t (entry_of arr)
  pub room : (v p : ℕ) → entry_of arr v ≡ Some p → p < length arr
  pub apart : NoneTwice ends
  pub stands : All (Stands t (entry_of arr)) ends
  pub inside : All (λ e. e < length arr) ends
  pub wider : (new : List (List ℕ)) → ReadsPaths t (entry_of arr) ends new → IsWider t old new

module _ (t : Task) (ok : IsTask t) where
  -- a way goes over nodes
  leads_below : (a : ℕ) (p : List ℕ) → a < t.graph.nodes → LeadsFrom t a p → AllByRecursion (λ v. v < t.graph.nodes) (a ∷ p)
  leads_below a [] l h = (l, tt)
  leads_below a (b ∷ p) l h = (l, leads_below b p (jb t ok a b h.1).1 h.3)

  -- so does a route
  pub route_below : (p : List ℕ) → IsRoute t p → AllByRecursion (λ v. v < t.graph.nodes) p
  route_below [] h = absurd h
  route_below (a ∷ p) h = leads_below a p (subst (λ z. z < t.graph.nodes) (sym h.0) ok.below) h.1

  -- what lies on a path is a node
  stands_below : (f : ℕ → Option ℕ) (e : ℕ) → ArcsFor t f → Stands t f e → e < t.graph.nodes
  stands_below f e arcs s = on_low (linked t.graph) t.banned t.targets t.source t.graph.nodes (λ x y h. (jb t ok x y h).1) ok.no_target f e arcs s.1

  -- a route has a node
  route_whole : (p : List ℕ) → IsRoute t p → 1 ≤ length p
  route_whole [] h = absurd h
  route_whole (a ∷ p) h = omega arith

  module _ (paths : List (Vec ℕ Global)) (flow : IsFlow t (map (λ p. p.items) paths)) where
    -- each path is a route
    pub route_at : (k : ℕ) (d : Vec ℕ Global) → k < length paths → IsRoute t (get_or paths k d).items
    route_at k d l = subst (IsRoute t) (get_or-map (λ p. p.items) paths k d [] l) (flow.routes k [] (omega (arith, l, length-map paths (λ (p : Vec ℕ Global). p.items))))

    -- each goes over nodes
    pub paths_below : All (λ p. All (λ v. v < t.graph.nodes) p.items) paths
    paths_below k d l = All-from_recursion (λ v. v < t.graph.nodes) (get_or paths k d).items (route_below (get_or paths k d).items (route_at k d l))

    -- each has a node
    pub paths_whole : All (λ p. 1 ≤ length p.items) paths
    paths_whole k d l = route_whole (get_or paths k d).items (route_at k d l)

    module _ (before : List (Option ℕ)) (loaded : (v : ℕ) → entry_of before v ≡ load_all t.source (λ _. None) (map (λ p. p.items) paths) v) where
      -- the array that was loaded, as a function of the list that is read
      array_is : {read : List (Option ℕ)} → read ≡ before → entry_of read ≡ array_of t ok (map (λ p. p.items) paths)
      array_is same = ap entry_of same ∙ fun_ext {f = entry_of before} {g = array_of t ok (map (λ p. p.items) paths)} loaded

      -- its entries are the nodes before
      pub loaded_arcs : {read : List (Option ℕ)} → read ≡ before → ArcsFor t (entry_of read)
      loaded_arcs same = subst (ArcsFor t) (sym (array_is same)) (array_arcs t ok (map (λ p. p.items) paths) flow)

      -- a search that found nothing has marked the least set that stops the flow
      pub reached_cut : {read : List (Option ℕ)} {seen : List Bool} {queue : List Reached} → read ≡ before → Reaching t (entry_of read) seen queue
          → ((k : ℕ) → k < length queue → IsDone t (entry_of read) seen (node_at queue k)) → IsLeastCut t (length (map (λ p. p.items) paths)) (mark_of seen)
      reached_cut {seen = seen} {queue = queue} same r done = stuck_cut t ok (map (λ p. p.items) paths) flow seen queue (subst (λ z. Reaching t z seen queue) (array_is same) r)
          (subst (λ z. (k : ℕ) → k < length queue → IsDone t z seen (node_at queue k)) (array_is same) done)

      -- the array after the walk to what the search found, and the ends of the new paths, as they are lent
      pub last_ends : {read lent last arr : List (Option ℕ)} {seen : List Bool} {queue lent_queue : List Reached} {place target : ℕ} {ends : List ℕ} → read ≡ before → lent ≡ before → lent_queue ≡ queue → Found t (entry_of read) seen queue place target
          → (IsTask t → ArcsFor t (entry_of lent) → IsQueue t (entry_of lent) lent_queue → Followed t (entry_of lent) (entry_of last) lent_queue place target)
          → arr ≡ last → length last ≡ t.graph.nodes → ends ≡ target ∷ map last_of (map (λ p. p.items) paths) → Ends t (map (λ p. p.items) paths) arr ends
      last_ends {lent = lent} {last = last} {seen = seen} {queue = queue} {lent_queue = lent_queue} {place = place} {target = target} {ends = ends} read_is lent_is queue_is search walk arr_is nodes ends_are =
          let ps = map (λ p. p.items) paths in
          let found : Found t (array_of t ok ps) seen queue place target = subst (λ z. Found t z seen queue place target) (array_is read_is) search in
          let end : Followed t (array_of t ok ps) (entry_of last) queue place target =
          subst (λ z. Followed t (array_of t ok ps) (entry_of last) z place target) queue_is
          (subst (λ z. Followed t z (entry_of last) lent_queue place target) (array_is lent_is)
          (walk ok (loaded_arcs lent_is)
          (subst (λ z. IsQueue t z lent_queue) (sym (array_is lent_is)) (subst (IsQueue t (array_of t ok ps)) (sym queue_is) found.reaching.queue_is)))) in
          let last_is : entry_of last ≡ put end.walked target (Some (node_at queue place)) = fun_ext {f = entry_of last} {g = put end.walked target (Some (node_at queue place))} end.moved in
          let link : linked t.graph (node_at queue place) target ≡ true = elim found.near as (λ _. linked t.graph (node_at queue place) target ≡ true) [
            | inl e ↦ absurd (both_ways (t.targets target) (ap t.targets (sym (eqb-true (node_at queue place) target e)) ∙ found.reaching.plain place found.inside) found.hit.1)
            | inr e ↦ e
          ] in
          let e = ending t ok flow end.state link found.hit.1 found.hit.2 found.hit.0 in
          let arcs : ArcsFor t (entry_of last) = subst (ArcsFor t) (sym last_is) e.arcs in
          let stands : All (Stands t (entry_of last)) (target ∷ map last_of ps) =
          All-from_recursion (Stands t (entry_of last)) (target ∷ map last_of ps) (subst (λ z. AllByRecursion (Stands t z) (target ∷ map last_of ps)) (sym last_is) e.stands) in
          subst (λ z. Ends t ps z ends) (sym arr_is) (subst (Ends t ps last) (sym ends_are) (record {
            nodes = nodes;
            arcs = arcs;
            room = λ v p h. omega (arith, (jb t ok p v (arcs.each v p h).linked).0, nodes);
            apart = e.apart;
            stands = stands;
            inside = λ k d l. omega (arith, stands_below (entry_of last) (get_or (target ∷ map last_of ps) k d) arcs (stands k d l), nodes);
            wider = λ new all.
                let starts = subst (λ z. All (λ p. z (second_of p) ≡ Some t.source) new) last_is all.starts in
                e.longer new all.flow
                (recursion_from_All (λ p. put end.walked target (Some (node_at queue place)) (second_of p) ≡ Some t.source) new starts) all.ends;
          }))
