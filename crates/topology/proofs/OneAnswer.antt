-- Rows are a topology or have one first fault: they are not both, and have no two.
use Rattle.std.proofs.Common.{◌≡◌, ◌≢◌, ℕ, ◌<◌, ◌≤◌, ◌⊎◌, Bool, List, length, refl, sym, ap, ◌∙◌, inl, inr, arith, Some, None}
use Rattle.std.proofs.lemmas.Bool.{cases_order}
use Rattle.tomo_base.specs.Network.{Network}
use Rattle.rows.specs.Rows.{Row}
use Rattle.topology.specs.declared.faults.TopoFault.{TopoFault}
use Rattle.topology.specs.declared.faults.TopoFault.TheVariants.{NoMemory, Width, Name, Loop, Nodes, Links, Few, Apart}
use Rattle.topology.specs.Topology.{topo_of, IsTopology}
use Rattle.topology.specs.Faults.{examined, AllFine, IsFirstRowFault, IsFirstApart, IsUnfit, HasUnfitGraph, IsTopoFault}

-- a fault other than want of memory is a row's, or that of the graph
by_kind : (header : Bool) (rows : List Row) (fault : TopoFault) → fault ≢ NoMemory → IsTopoFault header rows fault → IsFirstRowFault header rows fault ⊎ HasUnfitGraph header rows fault
by_kind header rows NoMemory other is = absurd (other refl)
by_kind header rows (Width r) other is = inl is
by_kind header rows (Name r) other is = inl is
by_kind header rows (Loop r) other is = inl is
by_kind header rows (Nodes r) other is = inl is
by_kind header rows (Links r) other is = inl is
by_kind header rows (Few n) other is = inr is
by_kind header rows (Apart v) other is = inr is

-- two first rows with a fault are the same row
first_once : (header : Bool) (rows : List Row) (f g : TopoFault) → IsFirstRowFault header rows f → IsFirstRowFault header rows g → f ≡ g
first_once header rows f g a b = elim (cases_order a.place b.place) [
  | inl same ↦ same_fault (sym a.here ∙ (rw (sym same) at b.here))
  | inr other ↦ elim other [
    | inl lt ↦ absurd (no_fault f (sym (b.fine a.place a.after_header lt) ∙ a.here))
    | inr gt ↦ absurd (no_fault g (sym (a.fine b.place b.after_header gt) ∙ b.here))
  ]
]
  where
    same_fault : {x y : TopoFault} → Some x ≡ Some y → x ≡ y
    same_fault e = cc

    no_fault : (x : TopoFault) → None ≡ Some x → ⊥
    no_fault x e = cc

-- a row has a fault or none has
first_or_fine : (header : Bool) (rows : List Row) (fault : TopoFault) → IsFirstRowFault header rows fault → AllFine header rows (length rows) → ⊥
first_or_fine header rows fault first fine = no_fault fault (sym (fine first.place first.after_header first.within) ∙ first.here)
  where
    no_fault : (x : TopoFault) → None ≡ Some x → ⊥
    no_fault x e = cc

-- an unfit graph has few nodes, or enough and one that is apart
unfit_kind : (g : Network) (fault : TopoFault) → fault ≢ NoMemory → IsUnfit g fault
    → ((fault ≡ Few g.nodes) × (g.nodes < 3)) ⊎ ((v : ℕ) × (fault ≡ Apart v) × (3 ≤ g.nodes) × IsFirstApart g v)
unfit_kind g NoMemory other unfit = absurd (other refl)
unfit_kind g (Width r) other unfit = absurd unfit
unfit_kind g (Name r) other unfit = absurd unfit
unfit_kind g (Loop r) other unfit = absurd unfit
unfit_kind g (Nodes r) other unfit = absurd unfit
unfit_kind g (Links r) other unfit = absurd unfit
unfit_kind g (Few n) other unfit = inl (ap Few unfit.0, omega (arith, unfit.0, unfit.1))
unfit_kind g (Apart v) other unfit = inr (v, refl, unfit.0, unfit.1)

-- two nodes that are the first apart are the same node
apart_once : (g : Network) (v w : ℕ) → IsFirstApart g v → IsFirstApart g w → v ≡ w
apart_once g v w a b = elim (cases_order v w) [
  | inl same ↦ same
  | inr other ↦ elim other [ inl lt ↦ absurd (a.apart (b.least v lt)) | inr gt ↦ absurd (b.apart (a.least w gt)) ]
]

-- a graph is unfit in one way
unfit_once : (g : Network) (e f : TopoFault) → e ≢ NoMemory → f ≢ NoMemory → IsUnfit g e → IsUnfit g f → e ≡ f
unfit_once g e f oe of a b = elim (unfit_kind g e oe a) [
  | inl few ↦ elim (unfit_kind g f of b) [ inl same ↦ few.0 ∙ sym same.0 | inr enough ↦ absurd (omega (arith, few.1, enough.2)) ]
  | inr apart ↦ elim (unfit_kind g f of b) [ inl few ↦ absurd (omega (arith, few.1, apart.2)) | inr same ↦ apart.1 ∙ (ap Apart (apart_once g apart.0 same.0 apart.3 same.3) ∙ sym same.1) ]
]

-- rows have one first fault at most, want of memory apart
pub one_fault : (header : Bool) (rows : List Row) (e f : TopoFault) → e ≢ NoMemory → f ≢ NoMemory → IsTopoFault header rows e → IsTopoFault header rows f → e ≡ f
one_fault header rows e f oe of a b = elim (by_kind header rows e oe a) [
  | inl first ↦ elim (by_kind header rows f of b) [ inl same ↦ first_once header rows e f first same | inr graph ↦ absurd (first_or_fine header rows e first graph.0) ]
  | inr graph ↦ elim (by_kind header rows f of b) [ inl first ↦ absurd (first_or_fine header rows f first graph.0) | inr same ↦ unfit_once (topo_of (examined header rows)).graph e f oe of graph.1 same.1 ]
]

-- rows of a topology have no fault
pub no_fault_of_topology : (header : Bool) (rows : List Row) (fault : TopoFault) → AllFine header rows (length rows) → IsTopology (topo_of (examined header rows)) → fault ≢ NoMemory → IsTopoFault header rows fault → ⊥
no_fault_of_topology header rows fault fine is other has = elim (by_kind header rows fault other has) [
  | inl first ↦ first_or_fine header rows fault first fine
  | inr graph ↦ elim (unfit_kind (topo_of (examined header rows)).graph fault other graph.1) [
    | inl few ↦ omega (arith, few.1, is.some_nodes)
    | inr apart ↦ apart.3.apart (is.connected 0 apart.0 (omega (arith, is.some_nodes)) apart.3.node refl refl)
  ]
]
