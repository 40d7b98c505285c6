use Rattle.std.proofs.Common.{◌≡◌, ◌∙◌, ◌<◌, ◌≤◌, ℕ, length, ap, arith}
use Rattle.session_text.specs.declared.session.SessionParts.{SessionParts}
use Rattle.policy_model.specs.declared.policy.PolicyParts.{PolicyParts}
use Rattle.policy_versions.proofs.NameLemmas.{few_versions}
use Rattle.policy_versions.specs.Compiling.{sids_of, decides_of}
use Rattle.flaskd_run.proofs.TopLemmas.{no_version_writes, learn_writes}
use Rattle.flaskd_run.proofs.top.learn_session.Goals as goal

-- how many versions a policy has, by its parts
count : (session parts : SessionParts) (policy : PolicyParts) (len : ℕ) → len ≡ length policy.versions → policy ≡ parts.policy → parts ≡ session → len ≡ length session.policy.versions
count session parts policy len counted of_parts of_session = counted ∙ ap (λ (p : PolicyParts). length p.versions) of_parts ∙ ap (λ (s : SessionParts). length s.policy.versions) of_session

pub returns-then-version-len-clause-writes : goal.returns-then-version-len-clause-writes
returns-then-version-len-clause-writes g c =
    let versions : c.len.result ≡ length c.args.session.policy.versions = count c.args.session c.parts.result.now c.parts-2.result.now c.len.result c.len.ensures c.parts-2.ensures.parts c.parts.ensures.parts in
    let past : length c.args.session.policy.versions ≤ c.args.version = omega (arith, versions, c.if-version-len.true) in
    no_version_writes c.write_words.result c.args.session c.args.version (sids_of c.args.catalogue.now) _ _ past c.write_words.ensures.ok c.write_words.ensures.err

pub overflow_cast-version : goal.overflow_cast-version
overflow_cast-version g c =
    let versions : c.len.result ≡ length c.parts-2.result.now.versions = c.len.ensures in
    let few : length c.parts-2.result.now.versions ≤ 64 = rw c.parts-2.ensures.parts (few_versions c.parts.result.now.policy c.parts-2.ensures.kept) in
    omega (arith, versions, few, c.if-version-len.false)

pub returns-clause-writes : goal.returns-clause-writes
returns-clause-writes g c =
    let versions : c.len.result ≡ length c.args.session.policy.versions = count c.args.session c.parts.result.now c.parts-2.result.now c.len.result c.len.ensures c.parts-2.ensures.parts c.parts.ensures.parts in
    let below : c.args.version < length c.args.session.policy.versions = omega (arith, versions, c.if-version-len.false) in
    learn_writes c.write_learned.result c.args.session c.into_parts.result c.args.version (sids_of c.args.catalogue.now) (decides_of c.args.catalogue.now) c.in_ok-learnt.learnt _ _
    c.into_parts.ensures.value c.requires.decides below c.in_ok-learnt.ensures
    (rw c.parts-3.ensures.parts at c.write_learned.ensures.ok) (rw c.parts-3.ensures.parts at c.write_learned.ensures.err)
