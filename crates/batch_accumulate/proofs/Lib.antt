pub mod OneDelivery
