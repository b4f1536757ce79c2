-- The parts that are made for a plan can be spelled.
use Rattle.std.proofs.Common.{◌≡◌, ℕ, ◌<◌, ◌^◌, Bool, List, [], ◌∷◌, length, map, get_or, sym, subst, arith, All}
use Rattle.std.proofs.lemmas.List.{get_or_default, length-map}
use Rattle.std.proofs.lemmas.List.Elements.{All-cons, All-map}
use Rattle.tomo_base.specs.declared.graph.Link.{Link}
use Rattle.tomo_base.specs.declared.pocket.Pocket.{Pocket}
use Rattle.tomo_base.specs.Network.{Network, AreLinks, IsGraph}
use Rattle.tomo_base.specs.Walks.{StepsFrom}
use Rattle.tomo_base.specs.Identify.{IsMonitorPath}
use Rattle.tomo_base.proofs.Links.{linked_below}
use Rattle.topology.specs.Topology.{Topo, IsTopology}
use Rattle.simple_path.specs.declared.recipe.Term.{Term}
use Rattle.plan_form.specs.declared.plan.HeldPocket.{HeldPocket}
use Rattle.plan_form.specs.Building.{IsBuilt}
use Rattle.plan_form.specs.Buildable.{IsArrangeable, IsBuildable, IsShort, as_part}
use Rattle.plan_form.specs.Held.{part_of}
use Rattle.plan_form.specs.Parts.{PlanPocket, IsSmall, IsNodeList, IsTermList, IsName, IsSmallLink, IsSmallPocket, IsWellFormed}
use Rattle.plan_form.proofs.Built.{rewritten_within, good_paths}

-- the names of a topology
pub names_formed : (t : Topo) → IsTopology t → All IsName t.names
names_formed t is = is.named

-- the ends of links are nodes
pub links_below : (n : ℕ) (links : List Link) → AreLinks n links → All (λ l. (l.a < n) × (l.b < n)) links
links_below n [] are = λ k d l. absurd (omega (arith, l))
links_below n (link ∷ links) are = All-cons (λ (l : Link). (l.a < n) × (l.b < n)) link links (omega (arith, are.0, are.1), are.1) (links_below n links are.3)

-- the links of a topology
pub links_formed : (t : Topo) → IsTopology t → All IsSmallLink t.graph.links
links_formed t is k d l = let ends = links_below t.graph.nodes t.graph.links is.graph k d l in (omega (arith, ends.0, is.few_nodes), omega (arith, ends.1, is.few_nodes))

-- pockets, as a plan keeps them
pub pockets_formed : (held : List HeldPocket) (given : List Pocket) → All (λ k. IsSmall k.need × All IsSmall k.nodes.items) held → map part_of held ≡ map as_part given → All (λ k. 0 < length k.nodes) given
    → All IsSmallPocket (map part_of held)
pockets_formed held given small same filled k d l =
    let numbers = All-map (λ (p : PlanPocket). IsSmall p.need × All IsSmall p.nodes) part_of held small k d l in
    let some = subst (All (λ (p : PlanPocket). 0 < length p.nodes)) (sym same) (All-map (λ (p : PlanPocket). 0 < length p.nodes) as_part given filled) k d l in
    (numbers.0, (some, numbers.1))

-- each step of a walk leads to a node
steps_below : (g : Network) (a : ℕ) (p : List ℕ) → IsGraph g → StepsFrom g a p → All (λ v. v < g.nodes) p
steps_below g a [] graph steps = λ k d l. absurd (omega (arith, l))
steps_below g a (b ∷ p) graph steps = All-cons (λ v. v < g.nodes) b p (linked_below g.nodes g.links a b graph steps.0).1 (steps_below g b p graph steps.1)

-- each entry of a monitor path is a node
pub nodes_below : (g : Network) (m : ℕ → Bool) (p : List ℕ) → IsGraph g → IsMonitorPath g m p → All (λ v. v < g.nodes) p
nodes_below g m [] graph path = λ k d l. absurd (omega (arith, l))
nodes_below g m (a ∷ []) graph path = absurd (omega (arith, path.two))
nodes_below g m (a ∷ b ∷ p) graph path = All-cons (λ v. v < g.nodes) a (b ∷ p) (linked_below g.nodes g.links a b graph path.linked.0).0 (steps_below g a (b ∷ p) graph path.linked)

-- monitor paths of a topology
pub paths_formed : (t : Topo) (m : ℕ → Bool) (paths : List (List ℕ)) → IsTopology t → All (IsMonitorPath t.graph m) paths → All IsNodeList paths
paths_formed t m paths is each k d l =
    let path = each k d l in
    (omega (arith, path.two), λ j e n. omega (arith, nodes_below t.graph m (get_or paths k d) is.graph path j e n, is.few_nodes))

-- recipes
pub recipes_formed : (pool : List (List ℕ)) (old : List (List Term)) (paths : List (List ℕ)) (new : List (List Term)) → IsArrangeable pool old → IsBuilt pool old paths new → length paths < 2 ^ 31 → All IsTermList new
recipes_formed pool old paths new can built few i d l =
    let within : i < length old = omega (arith, l, built.one_each) in
    let short : IsShort (get_or new i []) = can.short paths i (get_or new i []) built.ascending within (built.recipes i within) in
    let names : All (λ (t : Term). t.path < length paths) (get_or new i []) = rewritten_within pool paths (get_or old i []) (get_or new i []) (built.recipes i within) in
    rw (get_or_default new i d [] l) (short.0, short.1, λ k e n. (short.2 k e n, omega (arith, names k e n, few)))

-- so what is made of all parts can be spelled
pub made_formed : (t : Topo) (m : ℕ → Bool) (pool : List (List ℕ)) (old : List (List Term)) (given : List Pocket) (names : List (List ℕ)) (links : List Link) (forced barred monitors : List ℕ) (held : List HeldPocket) (paths : List (List ℕ))
    (new : List (List Term)) → IsTopology t → IsBuildable t.graph m pool old → names ≡ t.names → links ≡ t.graph.links → All IsSmall forced → All IsSmall barred → All IsSmall monitors → All (λ k. 0 < length k.nodes) given
    → map part_of held ≡ map as_part given → All (λ k. IsSmall k.need × All IsSmall k.nodes.items) held → length held < 2 ^ 32 → IsBuilt pool old paths new → length paths < 2 ^ 31 → length new < 2 ^ 32
    → IsWellFormed (record { names = names; links = links; forced = forced; barred = barred; monitors = monitors; pockets = map part_of held; paths = paths; recipes = new })
made_formed t m pool old given names links forced barred monitors held paths new is can same_names same_links small_forced small_barred small_monitors filled same parts few_pockets built few_paths few_recipes = record {
  names = rw same_names (record { each = names_formed t is; few = omega (arith, is.one_each, is.few_nodes) });
  links = rw same_links (record { each = links_formed t is; few = omega (arith, is.few_links) });
  forced = small_forced;
  barred = small_barred;
  monitors = small_monitors;
  pockets = record { each = pockets_formed held given parts same filled; few = rw length-map few_pockets };
  paths = record { each = paths_formed t m paths is (good_paths t.graph m pool old paths new can.paths built).each; few = few_paths };
  recipes = record { each = recipes_formed pool old paths new can.arranges built few_paths; few = few_recipes };
}
