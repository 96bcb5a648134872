-- How many lost nodes are survived, by searches node for node and number for number.
use Rattle.std.proofs.Common.{◌≡◌, ℕ, ◌+◌, ◌<◌, ◌≤◌, Bool, false, List, [], ◌∷◌, length, arith, sym, subst, inl, inr}
use Rattle.std.specs.List.{All, Contains}
use Rattle.std.proofs.lemmas.Bool.{cases_lt}
use Rattle.std.proofs.lemmas.List.Elements.{All-contains}
use Rattle.scp_quorum.specs.scp_types.specs.declared.names.NodeId.{NodeId}
use Rattle.scp_quorum_search.specs.declared.member.Member.{Member}
use Rattle.scp_quorum_search.specs.declared.tries.Tries.{Tries}
use Rattle.scp_quorum_search.specs.declared.few.Few.{Few}
use Rattle.scp_quorum_search.specs.declared.few.Few.TheVariants as few
use Rattle.scp_quorum_search.specs.declared.surviving.Survival.{Survival}
use Rattle.scp_quorum_search.specs.declared.surviving.Survival.TheVariants as survived
use Rattle.scp_quorum_search.specs.declared.quest.Quest.{Quest}
use Rattle.scp_quorum_search.specs.Quorums.{Survives}
use Rattle.scp_quorum_search.specs.Losses.{SurviveBelow, ShowsSurvived}
use Rattle.scp_quorum_search.specs.inside.Losses.{IsHaltedBy, ShowsFew, ShowsFewOfAll}
use Rattle.scp_quorum_search.proofs.Branching.{Contains-cons_cases, Contains-first}
use Rattle.scp_quorum_search.proofs.Alone.{IsAlone, between_all, survives_by, not_survived}

-- so many lost nodes don't halt the node
abbrev pub IsNeverHalted : Quest → ℕ → NodeId → Type 0
IsNeverHalted quest count at = (us : NodeId → Bool) → IsHaltedBy quest at count us → ⊥

one_node : (at v : NodeId) → Contains (at ∷ []) v → at ≡ v
one_node at v here =
    elim (Contains-cons_cases at [] v here) [
      | inl same ↦ same
      | inr (k, lt, is) ↦ absurd (omega arith)
    ]

-- ---- one node

pub few_of_one : (quest : Quest) (at : NodeId) (count : ℕ) (none : NodeId → Bool) (left : List NodeId) (tries : Tries) → ((v : NodeId) → none v ≡ false) → All (λ v. (v ≡ at → ⊥) → Contains left v) quest.all.now
    → (found : Few) → ShowsFew quest at count none left tries found → ShowsFewOfAll quest (at ∷ []) count tries found
few_of_one quest at count none left tries empty others few.Halt shows = (at, shows.0, Contains-first at [], shows.1)
few_of_one quest at count none left tries empty others few.Survive shows = λ v us here halted.
    let P : NodeId → Type 0 = λ w. IsHaltedBy quest w count us in
    let back : IsHaltedBy quest at count us = subst P (sym (one_node at v here)) halted in
    shows us back (between_all quest at none us left empty others back.0)
few_of_one quest at count none left tries empty others few.Unknown shows = shows

pub never_here : (quest : Quest) (at : NodeId) (count : ℕ) (tries : Tries) → ShowsFewOfAll quest (at ∷ []) count tries few.Survive → IsNeverHalted quest count at
never_here quest at count tries shows us halted = shows at us (Contains-first at []) halted

-- ---- each node

pub some_halted : (quest : Quest) (at : NodeId) (count : ℕ) (tries : Tries) → Contains quest.all.now at → ShowsFewOfAll quest (at ∷ []) count tries few.Halt → ShowsFewOfAll quest quest.all.now count tries few.Halt
some_halted quest at count tries there (v, us, here, halted) =
    let P : NodeId → Type 0 = λ w. Contains quest.all.now w in
    (v, us, subst P (one_node at v here) there, halted)

pub never_any : (quest : Quest) (count : ℕ) (tries : Tries) → All (IsNeverHalted quest count) quest.all.now → ShowsFewOfAll quest quest.all.now count tries few.Survive
never_any quest count tries never at us here halted = All-contains (IsNeverHalted quest count) quest.all.now at never here us halted

-- ---- each number

pub halt_not_survived : (quest : Quest) (count : ℕ) (tries : Tries) (found : Few) → found ≡ few.Halt → ShowsFewOfAll quest quest.all.now count tries found → IsAlone quest → Survives quest.members.now count → ⊥
halt_not_survived quest count tries few.Halt is shows alone = not_survived quest alone count shows.0 shows.1 shows.2 shows.3
halt_not_survived quest count tries few.Survive is shows alone = λ _. let f : few.Survive ≡ few.Halt = is in cc
halt_not_survived quest count tries few.Unknown is shows alone = λ _. let f : few.Unknown ≡ few.Halt = is in cc

pub survived_here : (quest : Quest) (count : ℕ) (tries : Tries) (found : Few) → found ≡ few.Survive → ShowsFewOfAll quest quest.all.now count tries found → IsAlone quest → Survives quest.members.now count
survived_here quest count tries few.Survive is shows alone = survives_by quest alone count shows
survived_here quest count tries few.Halt is shows alone = absurd (let f : few.Halt ≡ few.Survive = is in cc)
survived_here quest count tries few.Unknown is shows alone = absurd (let f : few.Unknown ≡ few.Survive = is in cc)

pub survives_fewer : (members : List Member) (count more : ℕ) → count ≤ more → Survives members more → Survives members count
survives_fewer members count more le survives lost known few = survives lost known (omega (arith, few, le))

-- the greatest number below this one
abbrev pub IsMost : ℕ → Survival → Type 0
IsMost count (survived.Most most) = most + 1 ≡ count
IsMost count survived.None = count ≡ 0
IsMost count (survived.Unknown below) = ⊥

pub below_none : (members : List Member) → SurviveBelow members 0
below_none members count lt = absurd (omega arith)

pub below_more : (members : List Member) (count : ℕ) → SurviveBelow members count → Survives members count → SurviveBelow members (count + 1)
below_more members count below here less lt = survives_fewer members less count (omega arith) here

module _ (members : List Member) (count : ℕ) (tries : Tries) where
  pub at_halt : count < length members → SurviveBelow members count → (Survives members count → ⊥) → (most : Survival) → IsMost count most → ShowsSurvived members tries most
  at_halt lt below never (survived.Most most) is = (omega (arith, is, lt), below most (omega (arith, is)), greatest)
    where
      greatest : (more : ℕ) → more < length members → Survives members more → more ≤ most
      greatest more within survives =
          elim (cases_lt most more) [
            | inl past ↦ absurd (never (survives_fewer members count more (omega (arith, is, past)) survives))
            | inr le ↦ le
          ]
  at_halt lt below never survived.None is = λ more within survives. never (survives_fewer members count more (omega (arith, is)) survives)
  at_halt lt below never (survived.Unknown less) is = absurd is

  pub at_end : length members ≤ count → count ≤ length members → SurviveBelow members count → (most : Survival) → IsMost count most → ShowsSurvived members tries most
  at_end all no_more below (survived.Most most) is = (omega (arith, is, no_more), below most (omega (arith, is)), λ more within survives. omega (arith, is, within, all))
  at_end all no_more below survived.None is = λ more within survives. absurd (omega (arith, is, within, all))
  at_end all no_more below (survived.Unknown less) is = absurd is
