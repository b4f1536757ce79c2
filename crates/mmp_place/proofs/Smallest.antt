-- A bad part with two outside neighbours and no smaller one inside: with the two neighbours and a link between them it is three-connected, and it is a block, or no two of its nodes are parted.
use Rattle.std.proofs.Common.{◌≡◌, ◌≢◌, ℕ, Bool, false, not, ◌&&◌, ◌||◌, ◌==◌, IsTrue, refl, sym, ap, ◌∙◌, subst, inl, inr, ◌⊎◌, ◌∷◌}
use Rattle.std.proofs.lemmas.Bool.{cases_Bool, cases_eq, both_ways, and_parts, and_from, and_left, and_right, not-true, not_from_false, eqb-true, eq-eqb, or_cases, or_left, or_right, false_from_ne_true}
use Rattle.tomo_base.specs.Network.{Network, linked, any_joins, joins}
use Rattle.tomo_base.specs.Sets.{minus, without, Within}
use Rattle.tomo_base.proofs.Links.{linked_comm, joins_gives}
use Rattle.tomo_base.specs.Parting.{without_two, IsClosedIn, AreJoinedIn, IsJoinedIn, IsJoinedWithoutOne, IsJoinedWithoutTwo}
use Rattle.tomo_base.proofs.Parting.{without-from, without-parts, without_two-mono, without_two-in, without_two-to, without_two-from, without_two-ne, minus-in, minus-out, flip, joined-more, joined-sym, closed-rest}
use Rattle.tomo_base.proofs.Reaching.{is_node}
use Rattle.blocks.proofs.Unparted.{Pairwise}

-- ---- one link more

-- the graph with a link between a and b
abbrev pub with_link : Network → ℕ → ℕ → Network
with_link g a b = record { nodes = g.nodes; links = record { a = a; b = b } ∷ g.links }

-- it keeps the links
pub link_kept : (g : Network) (a b u v : ℕ) → IsTrue (linked g u v) → IsTrue (linked (with_link g a b) u v)
unfolding any_joins
link_kept g a b u v l = or_right (joins (record { a = a; b = b }) u v) (linked g u v) l

-- and joins a and b
pub link_new : (g : Network) (a b : ℕ) → IsTrue (linked (with_link g a b) a b)
unfolding any_joins joins
link_new g a b = or_left (joins (record { a = a; b = b }) a b) (linked g a b) (or_left ((a == a) && (b == b)) ((a == b) && (b == a)) (and_from (a == a) (b == b) (eq-eqb a a refl) (eq-eqb b b refl)))

-- and nothing else
pub link_gives : (g : Network) (a b u v : ℕ) → IsTrue (linked (with_link g a b) u v) → IsTrue (linked g u v) ⊎ (((a ≡ u) × (b ≡ v)) ⊎ ((a ≡ v) × (b ≡ u)))
unfolding any_joins
link_gives g a b u v l = elim (or_cases (joins (record { a = a; b = b }) u v) (linked g u v) l) [
  | inl e ↦ inr (joins_gives (record { a = a; b = b }) u v e)
  | inr k ↦ inl k
]

-- ---- the part

-- the set with two nodes more
abbrev pub with_two : (ℕ → Bool) → ℕ → ℕ → ℕ → Bool
with_two q a b v = q v || ((v == a) || (v == b))

-- a set of nodes whose outside neighbours are a and b
pub record IsBetween (g : Network) (q : ℕ → Bool) (a b : ℕ) : Type 0 where
  pub differ : a ≢ b
  pub inside : Within q (is_node g)
  pub a_node : IsTrue (is_node g a)
  pub b_node : IsTrue (is_node g b)
  pub a_off : q a ≡ false
  pub b_off : q b ≡ false
  pub shut : IsClosedIn g (without_two (is_node g) a b) q
  pub to_a : (u : ℕ) × IsTrue (q u) × IsTrue (linked g u a)
  pub to_b : (u : ℕ) × IsTrue (q u) × IsTrue (linked g u b)

-- no smaller set of nodes of q is closed without two numbers outside it
abbrev pub HasNoSmaller : Network → (ℕ → Bool) → Type 0
HasNoSmaller g q = (y : ℕ → Bool) → Within y q → (s t : ℕ) → IsTrue (y s) → IsTrue (q t) → y t ≡ false
    → (c d : ℕ) → y c ≡ false → y d ≡ false → IsClosedIn g (without_two (is_node g) c d) y → ⊥

module _ (g : Network) (q : ℕ → Bool) (a b : ℕ) (is : IsBetween g q a b) where
  -- the part is inside
  pub part_in : Within q (with_two q a b)
  part_in v m = or_left (q v) ((v == a) || (v == b)) m

  -- and so are its two neighbours
  pub a_in : IsTrue (with_two q a b a)
  a_in = or_right (q a) ((a == a) || (a == b)) (or_left (a == a) (a == b) (eq-eqb a a refl))

  pub b_in : IsTrue (with_two q a b b)
  b_in = or_right (q b) ((b == a) || (b == b)) (or_right (b == a) (b == b) (eq-eqb b b refl))

  -- and nothing else
  pub part_or : (v : ℕ) → IsTrue (with_two q a b v) → IsTrue (q v) ⊎ ((v ≡ a) ⊎ (v ≡ b))
  part_or v m = elim (or_cases (q v) ((v == a) || (v == b)) m) [
    | inl k ↦ inl k
    | inr k ↦ inr (elim (or_cases (v == a) (v == b) k) [ inl e ↦ inl (eqb-true v a e) | inr e ↦ inr (eqb-true v b e) ])
  ]

  -- all are nodes
  pub part_nodes : Within (with_two q a b) (is_node g)
  part_nodes v m = elim (part_or v m) [
    | inl k ↦ is.inside v k
    | inr e ↦ elim e [ inl r ↦ subst (λ z. IsTrue (is_node g z)) (sym r) is.a_node | inr r ↦ subst (λ z. IsTrue (is_node g z)) (sym r) is.b_node ]
  ]

  -- a node of the part has its neighbours here
  pub near_part : (u v : ℕ) → IsTrue (q u) → IsTrue (linked g u v) → IsTrue (is_node g v) → IsTrue (with_two q a b v)
  near_part u v m l iv = elim (cases_eq v a) [
    | inl e ↦ subst (λ z. IsTrue (with_two q a b z)) (sym e) a_in
    | inr na ↦ elim (cases_eq v b) [
      | inl e ↦ subst (λ z. IsTrue (with_two q a b z)) (sym e) b_in
      | inr nb ↦ part_in v (is.shut u v m l (without_two-from (is_node g) a b v iv na nb))
    ]
  ]

module _ (g : Network) (q : ℕ → Bool) (a b : ℕ) (is : IsBetween g q a b) (none : HasNoSmaller g q) where
  -- a side of a cut that misses a and b would be a smaller such set
  side_missed : (c d : ℕ) (y : ℕ → Bool) → IsClosedIn (with_link g a b) (without_two (with_two q a b) c d) y → Within y (without_two (with_two q a b) c d) → y a ≡ false → y b ≡ false
      → (s t : ℕ) → IsTrue (y s) → IsTrue (without_two (with_two q a b) c d t) → y t ≡ false → ⊥
  side_missed c d y cl inside na nb s t my it nt =
      let p : ℕ → Bool = with_two q a b in
      let yq : Within y q = λ v m. elim (part_or g q a b is v (without_two-in p c d v (inside v m))) [
        | inl k ↦ k
        | inr e ↦ elim e [ inl r ↦ absurd (both_ways (y a) na (subst (λ z. IsTrue (y z)) r m)) | inr r ↦ absurd (both_ways (y b) nb (subst (λ z. IsTrue (y z)) r m)) ]
      ] in
      let yc : y c ≡ false = false_from_ne_true (y c) (λ m. (without_two-ne p c d c (inside c m)).0 refl) in
      let yd : y d ≡ false = false_from_ne_true (y d) (λ m. (without_two-ne p c d d (inside d m)).1 refl) in
      let shut : IsClosedIn g (without_two (is_node g) c d) y = λ u v m l iv.
      cl u v m (link_kept g a b u v l) (without_two-to p (is_node g) c d v iv (near_part g q a b is u v (yq u m) l (without_two-in (is_node g) c d v iv))) in
      let small : (k : ℕ) → IsTrue (q k) → y k ≡ false → ⊥ = λ k iq nk. none y yq s k my iq nk c d yc yd shut in
      -- else it is all of the part, and a and b are not left
      let gone : (e : ℕ) → y e ≡ false → (u : ℕ) → IsTrue (q u) → IsTrue (linked g u e) → IsTrue (without_two p c d e) → ⊥ = λ e ne u iq l ie.
      both_ways (y e) ne (cl u e (elim (cases_Bool (y u)) [ inl m ↦ m | inr n ↦ absurd (small u iq n) ]) (link_kept g a b u e l) ie) in
      elim (part_or g q a b is t (without_two-in p c d t it)) [
        | inl tq ↦ small t tq nt
        | inr e ↦ elim e [
          | inl r ↦ gone a na is.to_a.0 is.to_a.1 is.to_a.2 (subst (λ z. IsTrue (without_two p c d z)) r it)
          | inr r ↦ gone b nb is.to_b.0 is.to_b.1 is.to_b.2 (subst (λ z. IsTrue (without_two p c d z)) r it)
        ]
      ]

  -- no two numbers part it, with the link between a and b
  pub three_joined : IsJoinedWithoutTwo (with_link g a b) (with_two q a b)
  three_joined c d s t ms mt x h xs = elim (cases_Bool (x t)) [
    | inl xt ↦ xt
    | inr nt ↦
        let w : ℕ → Bool = without_two (with_two q a b) c d in
        let y : ℕ → Bool = λ v. x v && w v in
        let z : ℕ → Bool = minus w x in
        let y_closed : IsClosedIn (with_link g a b) w y = λ u v m l iv. and_from (x v) (w v) (h u v (and_parts (x u) (w u) m).0 l iv) iv in
        let z_closed = closed-rest (with_link g a b) w x h in
        let z_out : (v : ℕ) → IsTrue (y v) → z v ≡ false = λ v m. and_right (w v) (not (x v)) (ap not (and_parts (x v) (w v) m).0) in
        let by_y = λ (na : y a ≡ false) (nb : y b ≡ false). side_missed c d y y_closed (λ v m. (and_parts (x v) (w v) m).1) na nb s t (and_from (x s) (w s) xs ms) mt (and_left (x t) (w t) nt) in
        let by_z = λ (na : z a ≡ false) (nb : z b ≡ false). side_missed c d z z_closed (λ v m. (minus-out w x v m).0) na nb t s (minus-in w x t mt nt) ms (and_right (w s) (not (x s)) (ap not xs)) in
        absurd (elim (cases_Bool (y a)) [
          | inl ya ↦ elim (cases_Bool (z b)) [
            | inl zb ↦ both_ways (z b) (z_out b (y_closed a b ya (link_new g a b) (minus-out w x b zb).0)) zb
            | inr nzb ↦ by_z (z_out a ya) nzb
          ]
          | inr nya ↦ elim (cases_Bool (y b)) [
            | inl yb ↦ elim (cases_Bool (z a)) [
              | inl za ↦ both_ways (z a) (z_out a (y_closed b a yb (linked_comm (with_link g a b) a b (link_new g a b)) (minus-out w x a za).0)) za
              | inr nza ↦ by_z nza (z_out b yb)
            ]
            | inr nyb ↦ by_y nya nyb
          ]
        ])
  ]

-- a set that no two numbers part with the link between a and b is parted by no one number without it
pub joined_without_link : (g : Network) (p : ℕ → Bool) (a b : ℕ) → a ≢ b → ((x y z : ℕ) → (w : ℕ) × IsTrue (p w) × (w ≢ x) × (w ≢ y) × (w ≢ z))
    → IsJoinedWithoutTwo (with_link g a b) p → IsJoinedWithoutOne g p
joined_without_link g p a b ab more rigid w u v mu mv x h xu = elim (cases_Bool (x v)) [
  | inl m ↦ m
  | inr n ↦
      let pu = without-parts p w u mu in
      let pv = without-parts p w v mv in
      -- without one end of the link, x is closed with it too
      let off : (f : ℕ) → (f ≡ a) ⊎ (f ≡ b) → (s t : ℕ) → IsTrue (p s) → IsTrue (p t) → s ≢ w → t ≢ w → s ≢ f → t ≢ f → IsTrue (x s) → IsTrue (x t) =
      λ f e s t ps pt sw tw sf tf xs.
      let k : ℕ → Bool = without_two p w f in
      let y : ℕ → Bool = λ z. x z && k z in
      (and_parts (x t) (k t) (rigid w f s t (without_two-from p w f s ps sw sf) (without_two-from p w f t pt tw tf) y (λ i j m l ij.
      let o = and_parts (x i) (k i) m in
      let ni = without_two-ne p w f i o.1 in
      let nj = without_two-ne p w f j ij in
      elim (link_gives g a b i j l) [
        | inl old ↦ and_from (x j) (k j) (h i j o.0 old (without-from p w j (without_two-in p w f j ij) nj.0)) ij
        | inr new ↦ absurd (elim e [
          | inl fa ↦ elim new [ inl r ↦ ni.1 (sym r.0 ∙ sym fa) | inr r ↦ nj.1 (sym r.0 ∙ sym fa) ]
          | inr fb ↦ elim new [ inl r ↦ nj.1 (sym r.1 ∙ sym fb) | inr r ↦ ni.1 (sym r.1 ∙ sym fb) ]
        ])
      ])
      (and_from (x s) (k s) xs (without_two-from p w f s ps sw sf)))).0 in
      let uv : u ≢ v = λ k. both_ways (x v) n (subst (λ z. IsTrue (x z)) k xu) in
      -- u and v are the two ends: by a third node
      let third : (u ≡ a) ⊎ (u ≡ b) → (v ≡ a) ⊎ (v ≡ b) → IsTrue (x v) = λ eu ev.
      let z = more w u v in
      elim (cases_Bool (x z.0)) [
        | inl xz ↦ off u eu z.0 v z.1 pv.0 z.2 pv.1 z.3 (flip uv) xz
        | inr nz ↦ absurd (both_ways (x z.0) nz (off v ev u z.0 pu.0 z.1 pu.1 z.2 uv z.4 xu))
      ] in
      elim (cases_eq u a) [
        | inl ua ↦ elim (cases_eq v b) [
          | inl vb ↦ third (inl ua) (inr vb)
          | inr vb ↦ off b (inr refl) u v pu.0 pv.0 pu.1 pv.1 (λ k. ab (sym ua ∙ k)) vb xu
        ]
        | inr ua ↦ elim (cases_eq v a) [
          | inr va ↦ off a (inl refl) u v pu.0 pv.0 pu.1 pv.1 ua va xu
          | inl va ↦ elim (cases_eq u b) [
            | inl ub ↦ third (inr ub) (inl va)
            | inr ub ↦ off b (inr refl) u v pu.0 pv.0 pu.1 pv.1 ub (λ k. ab (sym va ∙ k)) xu
          ]
        ]
      ]
]

module _ (g : Network) (q : ℕ → Bool) (a b : ℕ) (is : IsBetween g q a b) (rigid : IsJoinedWithoutTwo (with_link g a b) (with_two q a b))
    (together : IsJoinedWithoutOne g (with_two q a b)) (beside : AreJoinedIn g (minus (is_node g) q) a b) where
  -- two of its nodes that are left: what is closed in the graph is closed with the link, which stands for the way beside the part
  by_rigid : (c d x y : ℕ) → IsTrue (with_two q a b c) → IsTrue (with_two q a b d) → IsTrue (without_two (with_two q a b) c d x) → IsTrue (without_two (with_two q a b) c d y) → AreJoinedIn g (without_two (is_node g) c d) x y
  by_rigid c d x y pc pd mx my s h sx =
      let p : ℕ → Bool = with_two q a b in
      let w : ℕ → Bool = without_two p c d in
      let v : ℕ → Bool = is_node g in
      let in_v : Within w (without_two v c d) = without_two-mono p v c d (part_nodes g q a b is) in
      -- where a and b are left, c and d are nodes of the part
      let inner : IsTrue (w a) → IsTrue (w b) → (e : ℕ) → IsTrue (p e) → (e ≡ c) ⊎ (e ≡ d) → IsTrue (q e) = λ wa wb e pe at. elim (part_or g q a b is e pe) [
        | inl k ↦ k
        | inr k ↦ absurd (
            let na = without_two-ne p c d a wa in
            let nb = without_two-ne p c d b wb in
            elim k [
              | inl ea ↦ elim at [ inl r ↦ na.0 (sym ea ∙ r) | inr r ↦ na.1 (sym ea ∙ r) ]
              | inr eb ↦ elim at [ inl r ↦ nb.0 (sym eb ∙ r) | inr r ↦ nb.1 (sym eb ∙ r) ]
            ])
      ] in
      let way : IsTrue (w a) → IsTrue (w b) → AreJoinedIn g (without_two v c d) a b = λ wa wb. joined-more g (minus v q) (without_two v c d) (λ z m.
      let o = minus-out v q z m in
      let other : (e : ℕ) → IsTrue (q e) → z ≢ e = λ e qe k. both_ways (q z) o.1 (subst (λ t. IsTrue (q t)) (sym k) qe) in
      without_two-from v c d z o.0 (other c (inner wa wb c pc (inl refl))) (other d (inner wa wb d pd (inr refl)))) a b beside in
      let t : ℕ → Bool = λ z. s z && w z in
      let closed : IsClosedIn (with_link g a b) w t = λ i j m l ij.
      let o = and_parts (s i) (w i) m in
      and_from (s j) (w j) (elim (link_gives g a b i j l) [
        | inl old ↦ h i j o.0 old (in_v j ij)
        | inr new ↦ elim new [
          | inl r ↦
              let wa = subst (λ z. IsTrue (w z)) (sym r.0) o.1 in
              let wb = subst (λ z. IsTrue (w z)) (sym r.1) ij in
              subst (λ z. IsTrue (s z)) r.1 (way wa wb s h (subst (λ z. IsTrue (s z)) (sym r.0) o.0))
          | inr r ↦
              let wa = subst (λ z. IsTrue (w z)) (sym r.0) ij in
              let wb = subst (λ z. IsTrue (w z)) (sym r.1) o.1 in
              subst (λ z. IsTrue (s z)) r.0 (joined-sym g (without_two v c d) a b (in_v a wa) (in_v b wb) (way wa wb) s h (subst (λ z. IsTrue (s z)) (sym r.1) o.0))
        ]
      ]) ij in
      (and_parts (s y) (w y) (rigid c d x y mx my t closed (and_from (s x) (w x) sx mx))).0

  -- where a way leads from a to b beside the part, no two numbers part any two of its nodes in the graph
  pub unparted : Pairwise g (is_node g) (with_two q a b)
  unparted x y mx my xy c d cx cy dx dy =
      let p : ℕ → Bool = with_two q a b in
      let v : ℕ → Bool = is_node g in
      let nodes = part_nodes g q a b is in
      -- one that is not here parts nothing
      let by_joined : (e : ℕ) → x ≢ e → y ≢ e → Within (without p e) (without_two v c d) → AreJoinedIn g (without_two v c d) x y = λ e xe ye sub.
      joined-more g (without p e) (without_two v c d) sub x y (together e x y (without-from p e x mx xe) (without-from p e y my ye)) in
      elim (cases_Bool (p c)) [
        | inr nc ↦ by_joined d (flip dx) (flip dy) (λ z m. let k = without-parts p d z m in
            without_two-from v c d z (nodes z k.0) (λ e. both_ways (p c) nc (subst (λ t. IsTrue (p t)) e k.0)) k.1)
        | inl pc ↦ elim (cases_Bool (p d)) [
          | inr nd ↦ by_joined c (flip cx) (flip cy) (λ z m. let k = without-parts p c z m in
              without_two-from v c d z (nodes z k.0) k.1 (λ e. both_ways (p d) nd (subst (λ t. IsTrue (p t)) e k.0)))
          | inl pd ↦ by_rigid c d x y pc pd (without_two-from p c d x mx (flip cx) (flip dx)) (without_two-from p c d y my (flip cy) (flip dy))
        ]
      ]

module _ (g : Network) (q : ℕ → Bool) (a b : ℕ) (is : IsBetween g q a b) where
  -- a set t over it that stays connected without f: its further nodes lie in every set that is closed beside the part and holds the other end e
  pub further_nodes : (t : ℕ → Bool) → Within t (is_node g) → Within (with_two q a b) t → (e f : ℕ) → IsJoinedIn g (without t f)
      → ((v : ℕ) → (v ≡ a) ⊎ (v ≡ b) → v ≢ f → v ≡ e) → (u : ℕ) → IsTrue (q u) → u ≢ f
      → (r : ℕ → Bool) → IsClosedIn g (minus (is_node g) q) r → IsTrue (r e) → (z : ℕ) → IsTrue (t z) → with_two q a b z ≡ false → z ≢ f → IsTrue (r z)
  further_nodes t tv pt e f together other u iq uf r rc re z tz pz zf = elim (cases_Bool (r z)) [
    | inl m ↦ m
    | inr n ↦
        let x : ℕ → Bool = λ v. without t f v && (not (q v) && not (r v)) in
        let qz : q z ≡ false = false_from_ne_true (q z) (λ m. both_ways (with_two q a b z) pz (part_in g q a b is z m)) in
        let closed : IsClosedIn g (without t f) x = λ i j m l ij.
        let o = and_parts (without t f i) (not (q i) && not (r i)) m in
        let k = without-parts t f i o.0 in
        let w = and_parts (not (q i)) (not (r i)) o.1 in
        let nqi = not-true (q i) w.0 in
        let nri = not-true (r i) w.1 in
        elim (cases_Bool (q j)) [
          | inl qj ↦ absurd (elim (part_or g q a b is i (near_part g q a b is j i qj (linked_comm g i j l) (tv i k.0))) [
            | inl qi ↦ both_ways (q i) nqi qi
            | inr at ↦ both_ways (r i) nri (subst (λ y. IsTrue (r y)) (sym (other i at k.1)) re)
          ])
          | inr nqj ↦ elim (cases_Bool (r j)) [
            | inl rj ↦ absurd (both_ways (r i) nri (rc j i rj (linked_comm g i j l) (minus-in (is_node g) q i (tv i k.0) nqi)))
            | inr nrj ↦ and_from (without t f j) (not (q j) && not (r j)) ij (and_from (not (q j)) (not (r j)) (not_from_false (q j) nqj) (not_from_false (r j) nrj))
          ]
        ] in
        let iz = without-from t f z tz zf in
        let got = together z u iz (without-from t f u (pt u (part_in g q a b is u iq)) uf) x closed
        (and_from (without t f z) (not (q z) && not (r z)) iz (and_from (not (q z)) (not (r z)) (not_from_false (q z) qz) (not_from_false (r z) n))) in
        absurd (both_ways (q u) (not-true (q u) (and_parts (not (q u)) (not (r u)) (and_parts (without t f u) (not (q u) && not (r u)) got).1).0) iq)
  ]
