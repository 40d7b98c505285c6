pub mod DeliveryLemmas
pub mod DrainLemmas
